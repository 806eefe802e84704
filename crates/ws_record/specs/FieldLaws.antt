-- Each field: no text of it begins another, and where it stands at the front of bytes, or doesn't.
use Rattle.std.proofs.Common.{◌≡◌, ℕ, ◌<◌, true, false, List, [], ◌∷◌, ◌++◌, length, take, drop, refl, sym, ap, ◌∙◌, append_assoc, arith}
use Rattle.std.specs.Int.{w16, w32}
use Rattle.std.proofs.lemmas.List.{take_at, drop_at, length-append}
use Rattle.ws_model.specs.declared.event.Mode.TheVariants.{Off, On}
use Rattle.ws_model.specs.declared.event.Alg.TheVariants.{Sha1, Sha256, Sha384, Sha512}
use Rattle.ws_model.specs.declared.event.How.TheVariants.{Done, Gone, Missed}
use Rattle.ws_record.specs.Text.{number_text, bytes_text, mode_text, alg_text, flag_text, how_text, NumberFits, BytesFit, HowFits}
use Rattle.ws_record.specs.Reading.{Begins, Lacks, Apart, both, BothFit}
use Rattle.ws_record.specs.NumberLaws.{wide16, wide32, number-apart}

-- the first elements of equal lists, and what is behind them
pub heads : {a b : ℕ} {r s : List ℕ} → a ∷ r ≡ b ∷ s → a ≡ b
heads e = cc

pub tails : {a b : ℕ} {r s : List ℕ} → a ∷ r ≡ b ∷ s → r ≡ s
tails e = cc

-- ---- no field, and two fields

pub nothing-apart : Apart {A = Unit {0}} (λ _. []) (λ _. Unit {0})
nothing-apart x y r s fx fy e = (refl, e)

pub both-apart : {A B : Type 0} (ta : A → List ℕ) (fa : A → Type 0) (tb : B → List ℕ) (fb : B → Type 0) → Apart ta fa → Apart tb fb → Apart (both ta tb) (BothFit fa fb)
both-apart ta fa tb fb apart_a apart_b x y r s fx fy e =
    let a = apart_a x.0 y.0 (tb x.1 ++ r) (tb y.1 ++ s) fx.0 fy.0 (sym (append_assoc (ta x.0) (tb x.1) r) ∙ e ∙ append_assoc (ta y.0) (tb y.1) s) in
    let b = apart_b x.1 y.1 r s fx.1 fy.1 a.1 in
    (λ i. (a.0 i, b.0 i), b.1)

pub both-lacks_second : {A B : Type 0} (ta : A → List ℕ) (fa : A → Type 0) (tb : B → List ℕ) (fb : B → Type 0) → Apart ta fa → (bytes : List ℕ) (x : A) (middle : List ℕ)
    → Begins ta fa bytes x middle → Lacks tb fb middle → Lacks (both ta tb) (BothFit fa fb) bytes
both-lacks_second ta fa tb fb apart bytes x middle first lacks p rest fits e =
    let a = apart x p.0 middle (tb p.1 ++ rest) first.fit fits.0 (sym first.parts ∙ e ∙ append_assoc (ta p.0) (tb p.1) rest) in
    lacks p.1 rest fits.1 a.1

-- ---- bytes behind their length

pub bytes-apart : Apart bytes_text BytesFit
bytes-apart x y r s fx fy e =
    let n = number-apart w32 wide32 (length x) (length y) (x ++ r) (y ++ s) fx fy (sym (append_assoc (number_text w32 (length x)) x r) ∙ e ∙ append_assoc (number_text w32 (length y)) y s) in (
      sym (take_at x r (length x) refl) ∙ ap (take (length x)) n.1 ∙ take_at y s (length x) (sym n.0),
      sym (drop_at x r (length x) refl) ∙ ap (drop (length x)) n.1 ∙ drop_at y s (length x) (sym n.0),
    )

pub bytes-lacks_content : (bytes middle : List ℕ) (len : ℕ) → Begins (number_text w32) (NumberFits w32) bytes len middle → length middle < len → Lacks bytes_text BytesFit bytes
bytes-lacks_content bytes middle len first short x rest fits e =
    let n = number-apart w32 wide32 len (length x) middle (x ++ rest) first.fit fits (sym first.parts ∙ e ∙ append_assoc (number_text w32 (length x)) x rest) in
    omega (arith, short, n.0, ap length n.1, length-append x rest)

-- ---- codes of one byte

pub mode-apart : Apart mode_text (λ _. Unit {0})
mode-apart Off Off r s fx fy e = (refl, tails e)
mode-apart On On r s fx fy e = (refl, tails e)
mode-apart Off On r s fx fy e = absurd (omega (arith, heads e))
mode-apart On Off r s fx fy e = absurd (omega (arith, heads e))

pub alg-apart : Apart alg_text (λ _. Unit {0})
alg-apart Sha1 Sha1 r s fx fy e = (refl, tails e)
alg-apart Sha256 Sha256 r s fx fy e = (refl, tails e)
alg-apart Sha384 Sha384 r s fx fy e = (refl, tails e)
alg-apart Sha512 Sha512 r s fx fy e = (refl, tails e)
alg-apart _ _ r s fx fy e = absurd (omega (arith, heads e))

pub flag-apart : Apart flag_text (λ _. Unit {0})
flag-apart false false r s fx fy e = (refl, tails e)
flag-apart true true r s fx fy e = (refl, tails e)
flag-apart false true r s fx fy e = absurd (omega (arith, heads e))
flag-apart true false r s fx fy e = absurd (omega (arith, heads e))

pub how-apart : Apart how_text HowFits
how-apart Done Done r s fx fy e = (refl, tails e)
how-apart Gone Gone r s fx fy e = (refl, tails e)
how-apart (Missed m) (Missed n) r s fx fy e =
    let p = number-apart w16 wide16 m n r s fx fy (tails e) in
    (ap Missed p.0, p.1)
how-apart _ _ r s fx fy e = absurd (omega (arith, heads e))
