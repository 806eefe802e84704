-- A device is one thing: unused, foreign, or a used one of one edition and one generation.
use Rattle.std.proofs.Common.{◌≡◌, inl, inr, ℕ, ◌+◌, ◌<◌, List, ◌∷◌, ◌++◌, length, take, drop, refl, sym, ◌∙◌, ap, subst, arith, append_assoc, length-append}
use Rattle.std.specs.Prelude.{slice_index}
use Rattle.std.specs.Int.{w64}
use Rattle.std.proofs.lemmas.List.{drop_at}
use Rattle.ws_record.specs.Text.{number_text}
use Rattle.ws_record.specs.NumberLaws.{wide64, length-number_text, number-apart}
use Rattle.ws_journal.specs.declared.store.Edition.{Edition}
use Rattle.ws_journal.specs.declared.store.Edition.TheVariants.{First, Second}
use Rattle.ws_journal.specs.Text.{name_text, head_text}
use Rattle.ws_journal.specs.Image.{IsNamed, IsUnused, IsUsed, IsGeneration, IsDevice, IsForeign, IsBelow, Counts}

-- a used device, part by part
pub used_parts : (edition : Edition) (generation : ℕ) (rest file : List ℕ) → IsUsed edition generation rest file → file ≡ 1 ∷ (name_text edition ++ (number_text w64 generation ++ rest))
used_parts edition generation rest file used = used.is ∙ ap (λ (l : List ℕ). 1 ∷ l) (append_assoc (name_text edition) (number_text w64 generation) rest)

pub length-name : (edition : Edition) → length (name_text edition) ≡ 8
length-name First = refl
length-name Second = refl

pub used_named : (edition : Edition) (generation : ℕ) (rest file : List ℕ) → IsUsed edition generation rest file → IsNamed file
used_named First generation rest file used = (First, ap (λ (f : List ℕ). take 8 (drop 1 f)) (used_parts First generation rest file used))
used_named Second generation rest file used = (Second, ap (λ (f : List ℕ). take 8 (drop 1 f)) (used_parts Second generation rest file used))

pub used_open : (edition : Edition) (generation : ℕ) (rest file : List ℕ) → IsUsed edition generation rest file → slice_index file 0 ≡ 1
used_open edition generation rest file used = ap (λ (f : List ℕ). slice_index f 0) (used_parts edition generation rest file used)

pub used_long : (edition : Edition) (generation : ℕ) (rest file : List ℕ) → IsUsed edition generation rest file → length file ≡ 17 + length rest
used_long edition generation rest file used =
    let name = name_text edition in
    let number = number_text w64 generation in
    omega (arith, ap length (used_parts edition generation rest file used), length-append name (number ++ rest), length-append number rest, length-name edition, length-number_text w64 wide64 generation)

pub used_rest : (edition : Edition) (generation : ℕ) (rest file : List ℕ) → IsUsed edition generation rest file → drop 17 file ≡ rest
used_rest edition generation rest file used =
    let head = 1 ∷ head_text edition generation in
    let long : length head ≡ 17 = omega (arith, length-append (name_text edition) (number_text w64 generation), length-name edition, length-number_text w64 wide64 generation) in
    ap (drop 17) used.is ∙ drop_at head rest 17 long

named_once : (edition other : Edition) (x y : List ℕ) → name_text edition ++ x ≡ name_text other ++ y → (edition ≡ other) × (x ≡ y)
named_once First First x y is = (refl, ap (drop 8) is)
named_once Second Second x y is = (refl, ap (drop 8) is)
named_once First Second x y is = absurd (omega (arith, ap (λ (l : List ℕ). slice_index l 7) is))
named_once Second First x y is = absurd (omega (arith, ap (λ (l : List ℕ). slice_index l 7) is))

pub used_once : (edition other : Edition) (generation number : ℕ) (rest more file : List ℕ) → IsUsed edition generation rest file → IsUsed other number more file
    → (edition ≡ other) × (generation ≡ number) × (rest ≡ more)
used_once edition other generation number rest more file first second =
    let x = number_text w64 generation ++ rest in
    let y = number_text w64 number ++ more in
    let whole : 1 ∷ (name_text edition ++ x) ≡ 1 ∷ (name_text other ++ y) = sym (used_parts edition generation rest file first) ∙ used_parts other number more file second in
    let inner : name_text edition ++ x ≡ name_text other ++ y = cc in
    let names = named_once edition other x y inner in
    let numbers = number-apart w64 wide64 generation number rest more first.fits second.fits names.1 in
    (names.0, numbers.0, numbers.1)

pub not_unused : (edition : Edition) (generation : ℕ) (rest file : List ℕ) → IsUsed edition generation rest file → IsUnused file → ⊥
not_unused edition generation rest file used (inl short) = let some = used.gate in omega (arith, used_long edition generation rest file used, short)
not_unused edition generation rest file used (inr (inl shut)) = omega (arith, used_open edition generation rest file used, shut)
not_unused edition generation rest file used (inr (inr torn)) = torn.1 (used_open edition generation rest file used)

pub foreign_used : (file : List ℕ) (at : ℕ) → IsForeign file at → IsUnused file → ⊥
foreign_used file at (inl torn) (inl short) = omega (arith, torn.1, short)
foreign_used file at (inl torn) (inr (inl shut)) = torn.2 shut
foreign_used file at (inl torn) (inr (inr named)) = torn.4 named.2
foreign_used file at (inr (inl nameless)) (inl short) = omega (arith, nameless.1, short)
foreign_used file at (inr (inl nameless)) (inr (inl shut)) = omega (arith, nameless.2, shut)
foreign_used file at (inr (inl nameless)) (inr (inr named)) = named.1 nameless.2
foreign_used file at (inr (inr (is, (edition, generation, rest, used, out)))) unused = not_unused edition generation rest file used unused

pub foreign_device : (edition : Edition) (generation : ℕ) (rest file : List ℕ) (at : ℕ) → IsDevice edition generation rest file → IsForeign file at → ⊥
foreign_device edition generation rest file at device (inl torn) = torn.3 (used_open edition generation rest file device.0)
foreign_device edition generation rest file at device (inr (inl nameless)) = nameless.3 (used_named edition generation rest file device.0)
foreign_device edition generation rest file at device (inr (inr (is, (other, number, more, used, out)))) =
    let once = used_once edition other generation number rest more file device.0 used in
    out (subst (λ (e : Edition). IsGeneration e number) once.0 (subst (IsGeneration edition) once.1 device.1))

pub foreign_below : (n : ℕ) (file : List ℕ) (at : ℕ) → IsBelow n file → IsForeign file at → ⊥
foreign_below n file at (inl unused) foreign = foreign_used file at foreign unused
foreign_below n file at (inr (edition, lesser, rest, device, less)) foreign = foreign_device edition lesser rest file at device foreign

pub one_place : (file : List ℕ) (at other : ℕ) → IsForeign file at → IsForeign file other → at ≡ other
one_place file at other (inl torn) (inl again) = torn.0 ∙ sym again.0
one_place file at other (inl torn) (inr (inl nameless)) = absurd (torn.3 nameless.2)
one_place file at other (inl torn) (inr (inr (is, (edition, generation, rest, used, out)))) = absurd (torn.3 (used_open edition generation rest file used))
one_place file at other (inr (inl nameless)) (inl torn) = absurd (torn.3 nameless.2)
one_place file at other (inr (inl nameless)) (inr (inl again)) = nameless.0 ∙ sym again.0
one_place file at other (inr (inl nameless)) (inr (inr (is, (edition, generation, rest, used, out)))) = absurd (nameless.3 (used_named edition generation rest file used))
one_place file at other (inr (inr (is, (edition, generation, rest, used, out)))) (inl torn) = absurd (torn.3 (used_open edition generation rest file used))
one_place file at other (inr (inr (is, (edition, generation, rest, used, out)))) (inr (inl nameless)) = absurd (nameless.3 (used_named edition generation rest file used))
one_place file at other (inr (inr first)) (inr (inr second)) = first.0 ∙ sym second.0

-- the generation of a device below
pub lesser : (n : ℕ) (edition : Edition) (generation : ℕ) (rest file : List ℕ) → IsBelow n file → IsDevice edition generation rest file → generation < n
lesser n edition generation rest file (inl unused) device = absurd (not_unused edition generation rest file device.0 unused)
lesser n edition generation rest file (inr (other, number, more, below, less)) device =
    let once = used_once edition other generation number rest more file device.0 below.0 in
    omega (arith, once.1, less)

pub counts_once : (edition other : Edition) (generation number : ℕ) (rest more a b : List ℕ) → Counts edition generation rest a b → Counts other number more a b
    → (edition ≡ other) × (generation ≡ number) × (rest ≡ more)
counts_once edition other generation number rest more a b (inl first) (inl second) = used_once edition other generation number rest more a first.0.0 second.0.0
counts_once edition other generation number rest more a b (inl first) (inr second) =
    absurd (omega (arith, lesser generation other number more b first.1 second.0, lesser number edition generation rest a second.1 first.0))
counts_once edition other generation number rest more a b (inr first) (inl second) =
    absurd (omega (arith, lesser generation other number more a first.1 second.0, lesser number edition generation rest b second.1 first.0))
counts_once edition other generation number rest more a b (inr first) (inr second) = used_once edition other generation number rest more b first.0.0 second.0.0

pub fresh_counts : (edition : Edition) (generation : ℕ) (rest a b : List ℕ) → IsUnused a → IsUnused b → Counts edition generation rest a b → ⊥
fresh_counts edition generation rest a b first second (inl there) = not_unused edition generation rest a there.0.0 first
fresh_counts edition generation rest a b first second (inr there) = not_unused edition generation rest b there.0.0 second
