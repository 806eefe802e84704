-- What the writes of a device that is made anew leave of it.
use Rattle.std.proofs.Common.{◌≡◌, inl, inr, ℕ, ◌+◌, ◌≤◌, List, [], ◌∷◌, ◌++◌, length, slice_index, take, drop, sym, ◌∙◌, ap, arith, length-append}
use Rattle.std.proofs.lemmas.Bool.{cases_eq}
use Rattle.std.proofs.lemmas.List.{drop_all, append-nil}
use Rattle.ws_disk.specs.Crash.{overwritten}
use Rattle.ws_disk.proofs.Parts.{same_front}
use Rattle.ws_journal.specs.declared.store.Edition.TheVariants.{Second}
use Rattle.ws_journal.specs.Text.{head_text, records, front}
use Rattle.ws_journal.specs.Kept.{Keeps}
use Rattle.ws_journal.specs.Made.{IsZeroed, body_text, IsHalfMade, IsMade, IsBelowOrMade}
use Rattle.ws_journal.proofs.Files.{overwritten_on, open_shut}
use Rattle.ws_journal.proofs.Records.{reaches, opened}
use Rattle.ws_journal.proofs.Spare.{length-head_text}

module _ (generation : ℕ) (payloads : List (List ℕ)) where
  abbrev head : List ℕ
  head = head_text Second generation

  abbrev body : List ℕ
  body = body_text generation payloads

  pub length-body : length body ≡ 16 + length (records Second payloads)
  length-body = omega (arith, length-append head (records Second payloads), length-head_text Second generation)

  pub reaches_first : (file : List ℕ) → 1 ≤ length file → 17 ≤ length (overwritten 1 head file)
  reaches_first file there = omega (arith, reaches 1 head file there, length-head_text Second generation)

  -- the head and then the records
  pub body_written : (file : List ℕ) → 1 ≤ length file → overwritten 17 (records Second payloads) (overwritten 1 head file) ≡ overwritten 1 body file
  body_written file there =
      let place : 17 ≡ 1 + length head = omega (arith, length-head_text Second generation) in
      ap (λ (n : ℕ). overwritten n (records Second payloads) (overwritten 1 head file)) place ∙ overwritten_on 1 head (records Second payloads) file there

  -- and then the last gate
  pub body_closed : (end : ℕ) (file : List ℕ) → 1 ≤ length file → end ≡ 17 + length (records Second payloads)
      → overwritten end (0 ∷ []) (overwritten 1 body file) ≡ overwritten 1 (body ++ 0 ∷ []) file
  body_closed end file there is =
      let place : end ≡ 1 + length body = omega (arith, is, length-body) in
      ap (λ (n : ℕ). overwritten n (0 ∷ []) (overwritten 1 body file)) place ∙ overwritten_on 1 body (0 ∷ []) file there

  -- over a cleared device
  pub half_made : (file : List ℕ) → file ≡ overwritten 1 (body ++ 0 ∷ []) (0 ∷ []) → IsHalfMade generation payloads file
  half_made file is =
      let bytes = body ++ 0 ∷ [] in
      let ends : drop (1 + length bytes) (0 ∷ []) ≡ [] = drop_all (1 + length bytes) (0 ∷ []) (omega arith) in
      record { gate = 0; after = []; is = is ∙ ap (λ (l : List ℕ). (0 ∷ bytes) ++ l) ends ∙ append-nil (0 ∷ bytes) }

  -- a device behind a gate in doubt is the device, or unused
  pub half_either : (older : ℕ) (file : List ℕ) → IsHalfMade generation payloads file → IsBelowOrMade older generation payloads file
  unfolding front
  half_either older file half =
      elim (cases_eq half.gate 1) [
        | inl is_open ↦ inr (open_shut [] body half.after file (half.is ∙ ap (λ (gate : ℕ). gate ∷ body ++ 0 ∷ half.after) is_open))
        | inr shut ↦ inl (elim (cases_eq half.gate 0) [
          | inl zero ↦ inl (inr (inl (ap (λ (l : List ℕ). slice_index l 0) half.is ∙ zero)))
          | inr torn ↦ inl (inr (inr (
            (λ is. torn (sym (ap (λ (l : List ℕ). slice_index l 0) half.is) ∙ is)),
            (λ is. shut (sym (ap (λ (l : List ℕ). slice_index l 0) half.is) ∙ is)),
            (Second, ap (λ (l : List ℕ). take 8 (drop 1 l)) half.is),
          )))
        ])
      ]

  pub gate_opened : (file : List ℕ) → IsHalfMade generation payloads file → IsMade generation payloads (overwritten 0 (1 ∷ []) file)
  unfolding front
  gate_opened file half = opened [] body file half

-- what is written behind a gate of 0 leaves it
pub zeroed-keeps : (old new : List ℕ) → IsZeroed old → Keeps 1 old new → IsZeroed new
zeroed-keeps [] new zero keeps = absurd (omega (arith, ap length zero))
zeroed-keeps (b ∷ old) new zero keeps = same_front 1 (b ∷ old) new (omega arith) keeps.before ∙ zero
