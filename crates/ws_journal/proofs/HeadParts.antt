-- What a device's parts make it.
use Rattle.std.proofs.Common.{◌≡◌, inl, inr, ℕ, ◌+◌, ◌<◌, ◌≤◌, List, ◌∷◌, ◌++◌, length, take, drop, refl, sym, ◌∙◌, ap, arith, append_assoc, length-append, take-append-drop, length-take, suc, get_or-drop}
use Rattle.std.specs.Prelude.{◌≢◌, slice_index}
use Rattle.std.specs.Int.{w64}
use Rattle.std.proofs.lemmas.List.{take_at}
use Rattle.ws_record.specs.Text.{number_text}
use Rattle.ws_record.specs.NumberLaws.{AreBytes, wide64, length-number_text}
use Rattle.ws_journal.specs.declared.store.Edition.{Edition}
use Rattle.ws_journal.specs.Text.{name_text}
use Rattle.ws_journal.specs.Image.{IsNamed, IsUnused, IsUsed, IsGeneration, IsForeign}
use Rattle.ws_journal.specs.Device.{HasParts}

-- bytes behind the first one
pub AreBytes-behind : (n first : ℕ) (rest : List ℕ) → AreBytes (first ∷ rest) → AreBytes (drop n rest)
AreBytes-behind n first rest are i = rw get_or-drop (are (suc (n + i)))

-- more of the file
pub parts_more : (gate : ℕ) (name : List ℕ) (generation : ℕ) (bytes file : List ℕ) → take 18 file ≡ bytes → HasParts gate name generation bytes → HasParts gate name generation file
parts_more gate name generation bytes file is parts =
    let number = number_text w64 generation in
    let more = drop 18 file in record {
      rest = parts.rest ++ more;
      some = let some = parts.some in omega (arith, length-append parts.rest more);
      is = sym (take-append-drop 18 file) ∙ ap (λ (l : List ℕ). l ++ more) (is ∙ parts.is)
          ∙ ap (λ (l : List ℕ). gate ∷ l) (append_assoc name (number ++ parts.rest) more ∙ ap (λ (l : List ℕ). name ++ l) (append_assoc number parts.rest more));
      eight = parts.eight;
      fits = parts.fits;
    }

pub short_file : (bytes file : List ℕ) → take 18 file ≡ bytes → length bytes < 18 → length file < 18
short_file bytes file is short = omega (arith, ap length is, length-take 18 file)

module _ (gate : ℕ) (name : List ℕ) (generation : ℕ) (file : List ℕ) (parts : HasParts gate name generation file) where
  abbrev behind : List ℕ
  behind = number_text w64 generation ++ parts.rest

  pub long : 18 ≤ length file
  long =
      let some = parts.some in
      omega (arith, ap length parts.is, length-append name behind, length-append (number_text w64 generation) parts.rest, parts.eight, length-number_text w64 wide64 generation)

  pub gate_is : slice_index file 0 ≡ gate
  gate_is = ap (λ (f : List ℕ). slice_index f 0) parts.is

  pub name_is : take 8 (drop 1 file) ≡ name
  name_is = ap (λ (f : List ℕ). take 8 (drop 1 f)) parts.is ∙ take_at name behind 8 parts.eight

  pub named : (edition : Edition) → name ≡ name_text edition → IsNamed file
  named edition is = (edition, name_is ∙ is)

  pub nameless : ((edition : Edition) → name ≡ name_text edition → ⊥) → IsNamed file → ⊥
  nameless none there = none there.0 (sym name_is ∙ there.1)

  pub used : (edition : Edition) → name ≡ name_text edition → gate ≡ 1 → IsUsed edition generation parts.rest file
  used edition is is_open = record {
    is = parts.is ∙ (λ i. is_open i ∷ (is i ++ behind)) ∙ ap (λ (l : List ℕ). 1 ∷ l) (sym (append_assoc (name_text edition) (number_text w64 generation) parts.rest));
    fits = parts.fits;
    gate = parts.some;
  }

  pub unused_shut : gate ≡ 0 → IsUnused file
  unused_shut is = inr (inl (gate_is ∙ is))

  pub unused_torn : (edition : Edition) → gate ≢ 0 → gate ≢ 1 → name ≡ name_text edition → IsUnused file
  unused_torn edition not_shut not_open is = inr (inr ((λ e. not_shut (sym gate_is ∙ e)), (λ e. not_open (sym gate_is ∙ e)), named edition is))

  pub foreign_gate : gate ≢ 0 → gate ≢ 1 → ((edition : Edition) → name ≡ name_text edition → ⊥) → IsForeign file 0
  foreign_gate not_shut not_open none = inl (refl, long, (λ e. not_shut (sym gate_is ∙ e)), (λ e. not_open (sym gate_is ∙ e)), nameless none)

  pub foreign_name : gate ≡ 1 → ((edition : Edition) → name ≡ name_text edition → ⊥) → IsForeign file 1
  foreign_name is none = inr (inl (refl, long, gate_is ∙ is, nameless none))

  pub foreign_generation : (edition : Edition) → name ≡ name_text edition → gate ≡ 1 → (IsGeneration edition generation → ⊥) → IsForeign file 9
  foreign_generation edition is is_open out = inr (inr (refl, (edition, generation, parts.rest, used edition is is_open, out)))
