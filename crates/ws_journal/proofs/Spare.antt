-- What the clearing of a device that doesn't count leaves of it.
use Rattle.std.proofs.Common.{◌≡◌, ⊎_elim, inl, inr, ℕ, ◌≤◌, List, [], ◌∷◌, ◌++◌, length, slice_index, take, drop, refl, sym, ◌∙◌, ap, subst, arith, length-append, length-drop, length-take, take-append-drop, get_or-take}
use Rattle.std.specs.Prelude.{None, slice_get}
use Rattle.std.specs.Int.{w64}
use Rattle.std.proofs.lemmas.Bool.{cases_lt}
use Rattle.std.proofs.lemmas.List.{take_at, take-take, take_min}
use Rattle.std.proofs.lemmas.Option.{slice_get-get_or}
use Rattle.ws_record.specs.Text.{number_text}
use Rattle.ws_record.specs.NumberLaws.{wide64, length-number_text}
use Rattle.ws_disk.specs.Crash.{Torn, Cut, NoMore, Only, Elapses, LeavesOnly}
use Rattle.ws_disk.proofs.Parts.{same_front}
use Rattle.ws_journal.specs.declared.store.Edition.{Edition}
use Rattle.ws_journal.specs.declared.store.Edition.TheVariants.{First, Second}
use Rattle.ws_journal.specs.Text.{name_text, head_text}
use Rattle.ws_journal.specs.Image.{IsNamed, IsUnused, IsUsed, IsBelow}
use Rattle.ws_journal.specs.Kept.{After, Each}
use Rattle.ws_journal.specs.Made.{IsShort, HasGate, IsZeroed, IsSpare, StaysSpare}
use Rattle.ws_journal.proofs.Moments.{one_call, then_run, weaker, at_end}

pub length-head_text : (edition : Edition) (generation : ℕ) → length (head_text edition generation) ≡ 16
length-head_text First generation = omega (arith, length-append (name_text First) (number_text w64 generation), length-number_text w64 wide64 generation)
length-head_text Second generation = omega (arith, length-append (name_text Second) (number_text w64 generation), length-number_text w64 wide64 generation)

pub Cut-refl : (size : ℕ) (file : List ℕ) → Cut size file file
Cut-refl size file = record { before = take_min size file; no_shorter = omega arith; no_longer = omega arith }

-- two files with one head
module _ (old new : List ℕ) (same : take 17 new ≡ take 17 old) where
  same_gate : slice_index new 0 ≡ slice_index old 0
  same_gate =
      sym (get_or-take 17 new 0 0 (omega arith)) ∙ ap (λ (l : List ℕ). slice_index l 0) same ∙ get_or-take 17 old 0 0 (omega arith)

  name_within : (file : List ℕ) → take 8 (drop 1 (take 17 file)) ≡ take 8 (drop 1 file)
  name_within [] = refl
  name_within (b ∷ file) = take-take 8 16 file (omega arith)

  same_name : IsNamed old → IsNamed new
  same_name named = (named.0, sym (name_within new) ∙ ap (λ (l : List ℕ). take 8 (drop 1 l)) same ∙ name_within old ∙ named.1)

  same_used : (edition : Edition) (generation : ℕ) (rest : List ℕ) → 18 ≤ length new → IsUsed edition generation rest old → IsUsed edition generation (drop 17 new) new
  same_used edition generation rest long used =
      let head = 1 ∷ head_text edition generation in
      let begins : take 17 old ≡ head = ap (take 17) used.is ∙ take_at head rest 17 (omega (arith, length-head_text edition generation)) in
      record {
        is = sym (take-append-drop 17 new) ∙ ap (λ (l : List ℕ). l ++ drop 17 new) (same ∙ begins);
        fits = used.fits;
        gate = omega (arith, length-drop 17 new);
      }

  same_below : (generation : ℕ) → 18 ≤ length old → 18 ≤ length new → IsBelow generation old → IsBelow generation new
  same_below generation was long (inl (inl short)) = absurd (omega arith)
  same_below generation was long (inl (inr (inl zero))) = inl (inr (inl (same_gate ∙ zero)))
  same_below generation was long (inl (inr (inr torn))) =
      inl (inr (inr ((λ is. torn.0 (sym same_gate ∙ is)), (λ is. torn.1 (sym same_gate ∙ is)), same_name torn.2)))
  same_below generation was long (inr lesser) =
      inr (lesser.0, lesser.1, drop 17 new, (same_used lesser.0 lesser.1 lesser.2 long lesser.3.0, lesser.3.1), lesser.4)

-- a cut to the head leaves no device that wasn't there
pub below-cut : (generation : ℕ) (old new : List ℕ) → IsBelow generation old → Cut 17 old new → IsBelow generation new
below-cut generation old new below cut =
    elim (cases_lt (length new) 18) [
      | inl short ↦ inl (inl short)
      | inr long ↦
          let was : 18 ≤ length old = omega (arith, cut.no_longer) in
          same_below old new (same_front 17 old new (omega arith) cut.before) generation was long below
    ]

pub short-cut : (old new : List ℕ) → IsShort old → Cut 17 old new → IsShort new
short-cut old new short cut = omega (arith, cut.no_longer)

pub gate-cut : (old new : List ℕ) → HasGate old → Cut 17 old new → HasGate new
gate-cut old new there cut = omega (arith, cut.no_shorter)

pub short-torn : (old new : List ℕ) → IsShort old → Torn 0 1 old new → IsShort new
short-torn old new short torn = omega (arith, torn.no_longer)

-- the gate stays before a cut behind it
pub zeroed-cut : (old new : List ℕ) → IsZeroed old → Cut 1 old new → IsZeroed new
zeroed-cut [] new zero cut = absurd (omega (arith, ap length zero))
zeroed-cut (b ∷ old) new zero cut = same_front 1 (b ∷ old) new (omega arith) cut.before ∙ zero

pub zeroed-gate : (file : List ℕ) → IsZeroed file → HasGate file
zeroed-gate [] zero = absurd (omega (arith, ap length zero))
zeroed-gate (b ∷ file) zero = omega arith

pub zeroed-below : (generation : ℕ) (file : List ℕ) → IsZeroed file → IsBelow generation file
zeroed-below generation [] zero = absurd (omega (arith, ap length zero))
zeroed-below generation (b ∷ file) zero = inl (inr (inl (ap (λ (l : List ℕ). slice_index l 0) zero)))

module _ {D : Type 0} (moment : D → ℕ) (images : D → ℕ → List ℕ → Type 0) (generation : ℕ) where
  abbrev Now : D → List ℕ → Type 0
  Now disk = images disk (moment disk)

  abbrev Grows : D → Type 0
  Grows disk = (t later : ℕ) (image : List ℕ) → t ≤ later → images disk later image → images disk t image

  -- one run of calls after another
  pub stays_on : (old mid new : D) → StaysSpare moment images generation old mid → StaysSpare moment images generation mid new → StaysSpare moment images generation old new
  stays_on old mid new first second = record { run = then_run moment images old mid new (IsBelow generation) first.run second.run; spare = second.spare }

  pub stays_short : (old new : D) → Grows new → LeavesOnly moment images old new IsShort → StaysSpare moment images generation old new
  stays_short old new grow run = record {
    run = weaker moment images old new IsShort (IsBelow generation) (λ image short. inl (inl short)) run;
    spare = record { below = λ image now. inl (inl (at_end moment images old new IsShort grow run image now)); gate = inl (at_end moment images old new IsShort grow run) };
  }

  abbrev IsGated : List ℕ → Type 0
  IsGated file = HasGate file × IsBelow generation file

  pub stays_gated : (old new : D) → Grows new → LeavesOnly moment images old new IsGated → StaysSpare moment images generation old new
  stays_gated old new grow run =
      let there = at_end moment images old new IsGated grow run in
      record {
        run = weaker moment images old new IsGated (IsBelow generation) (λ image gated. gated.1) run;
        spare = record { below = λ image now. (there image now).1; gate = inr (λ image now. (there image now).0) };
      }

  pub stays_zeroed : (old new : D) → Grows new → LeavesOnly moment images old new IsZeroed → StaysSpare moment images generation old new
  stays_zeroed old new grow run =
      stays_gated old new grow (weaker moment images old new IsZeroed IsGated (λ image zero. (zeroed-gate image zero, zeroed-below generation image zero)) run)

  -- a call that changes nothing
  pub stays_calm : (old new : D) → IsSpare generation (Now old) → Elapses (moment old) (moment new) (images old) (images new) → NoMore (Now old) (Now new) → StaysSpare moment images generation old new
  stays_calm old new spare time calm = record {
    run = one_call moment images old new (IsBelow generation) spare.below time (λ image now. spare.below image (calm image now));
    spare = record {
      below = λ image now. spare.below image (calm image now);
      gate = ⊎_elim (λ (short : Each (Now old) IsShort). inl (λ image now. short image (calm image now)))
          (λ (gated : Each (Now old) HasGate). inr (λ image now. gated image (calm image now))) spare.gate;
    };
  }

  -- a cut to the head
  pub stays_cut : (old new : D) → Grows new → IsSpare generation (Now old) → LeavesOnly moment images old new (After (Cut 17) (Now old)) → StaysSpare moment images generation old new
  stays_cut old new grow spare run =
      ⊎_elim
      (λ (short : Each (Now old) IsShort). stays_short old new grow (weaker moment images old new (After (Cut 17) (Now old)) IsShort
      (λ image after. short-cut after.0 image (short after.0 after.1) after.2) run))
      (λ (gated : Each (Now old) HasGate). stays_gated old new grow (weaker moment images old new (After (Cut 17) (Now old)) IsGated
      (λ image after. (gate-cut after.0 image (gated after.0 after.1) after.2, below-cut generation after.0 image (spare.below after.0 after.1) after.2)) run))
      spare.gate

  -- a write of the gate of a device that is too short
  pub stays_written : (old new : D) → Grows new → Each (Now old) IsShort → LeavesOnly moment images old new (After (Torn 0 1) (Now old)) → StaysSpare moment images generation old new
  stays_written old new grow short run =
      stays_short old new grow (weaker moment images old new (After (Torn 0 1) (Now old)) IsShort
      (λ image after. short-torn after.0 image (short after.0 after.1) after.2) run)

  -- a step that keeps a gate of 0
  pub stays_behind : (step : List ℕ → List ℕ → Type 0) → ((x y : List ℕ) → IsZeroed x → step x y → IsZeroed y) → (old new : D) → Grows new → Each (Now old) IsZeroed
      → LeavesOnly moment images old new (After step (Now old)) → StaysSpare moment images generation old new
  stays_behind step keeps old new grow zero run =
      stays_zeroed old new grow (weaker moment images old new (After step (Now old)) IsZeroed
      (λ image after. keeps after.0 image (zero after.0 after.1) after.2) run)

-- where a read finds no gate, a crash leaves nothing long enough for a device
pub no_gate : (generation : ℕ) (images : List ℕ → Type 0) (file : List ℕ) → IsSpare generation images → images file → slice_get file 0 ≡ None → Each images IsShort
no_gate generation images file spare there none =
    ⊎_elim (λ (short : Each images IsShort). short)
    (λ (gated : Each images HasGate). let some = slice_get-get_or file 0 0 (gated file there) in absurd cc) spare.gate

pub cut_short : (file : List ℕ) → IsShort (take 17 file)
cut_short file = omega (arith, length-take 17 file)

-- a device of which a crash leaves only this
pub spare_only : (generation : ℕ) (images : List ℕ → Type 0) (file : List ℕ) → Only file images → IsBelow generation file → IsSpare generation images
spare_only generation images file only below = record {
  below = λ image now. subst (IsBelow generation) (sym (only image now)) below;
  gate = elim (cases_lt 0 (length file)) [
    | inl there ↦ inr (λ image now. subst HasGate (sym (only image now)) there)
    | inr none ↦ inl (λ image now. subst IsShort (sym (only image now)) (omega arith))
  ];
}

-- no device is of a lesser generation than 0
pub unused-below : (file : List ℕ) → IsBelow 0 file → IsUnused file
unused-below file (inl unused) = unused
unused-below file (inr lesser) = absurd (omega (arith, lesser.4))
