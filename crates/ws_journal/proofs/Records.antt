-- What the writes of a record make of a file.
use Rattle.std.proofs.Common.{◌≡◌, ℕ, ◌+◌, ◌≤◌, List, [], ◌∷◌, ◌++◌, length, take, drop, sym, ◌∙◌, ap, subst, arith, append_assoc, length-append, length-take}
use Rattle.std.specs.Int.{w32}
use Rattle.sha2.specs.Sha256.{sha256}
use Rattle.sha2.proofs.Facts256.{length-sha256}
use Rattle.ws_record.specs.Text.{number_text}
use Rattle.ws_record.specs.NumberLaws.{wide32, length-number_text}
use Rattle.ws_disk.specs.Crash.{overwritten, Torn}
use Rattle.ws_journal.specs.declared.store.Edition.TheVariants.{Second}
use Rattle.ws_journal.specs.Text.{record_text}
use Rattle.ws_journal.specs.Kept.{IsShut, IsInDoubt}
use Rattle.ws_journal.proofs.Files.{overwritten_on, overwritten_shut, torn_gate, overwritten_gate, open_shut, doubt_split}

pub length-head : (payload head : List ℕ) → head ≡ number_text w32 (length payload) ++ sha256 payload → length head ≡ 36
length-head payload head is =
    let number = number_text w32 (length payload) in
    let four : length number ≡ 4 = length-number_text w32 wide32 (length payload) in
    omega (arith, ap length is, length-append number (sha256 payload), four, length-sha256 payload)

pub length-record : (payload : List ℕ) → length (record_text Second payload) ≡ 36 + length payload
unfolding record_text
length-record payload =
    let number = number_text w32 (length payload) in
    let four : length number ≡ 4 = length-number_text w32 wide32 (length payload) in
    omega (arith, length-append (number ++ sha256 payload) payload, length-append number (sha256 payload), four, length-sha256 payload)

-- the head and then the payload
pub record_written : (at : ℕ) (payload head file : List ℕ) → head ≡ number_text w32 (length payload) ++ sha256 payload → at ≤ length file
    → overwritten (at + 36) payload (overwritten at head file) ≡ overwritten at (record_text Second payload) file
unfolding record_text
record_written at payload head file is within =
    let number = number_text w32 (length payload) in
    let same : at + 36 ≡ at + length head = omega (arith, length-head payload head is) in
    let text : head ++ payload ≡ number ++ sha256 payload ++ payload = ap (λ (l : List ℕ). l ++ payload) is in
    ap (λ (n : ℕ). overwritten n payload (overwritten at head file)) same ∙ overwritten_on at head payload file within ∙ ap (λ (l : List ℕ). overwritten at l file) text

-- and then the next gate
pub record_closed : (at : ℕ) (payload file : List ℕ) → at ≤ length file
    → overwritten (at + 36 + length payload) (0 ∷ []) (overwritten at (record_text Second payload) file) ≡ overwritten at (record_text Second payload ++ 0 ∷ []) file
record_closed at payload file within =
    let text = record_text Second payload in
    let same : at + 36 + length payload ≡ at + length text = omega (arith, length-record payload) in
    ap (λ (n : ℕ). overwritten n (0 ∷ []) (overwritten at text file)) same ∙ overwritten_on at text (0 ∷ []) file within

-- a write reaches its end
pub reaches : (at : ℕ) (bytes file : List ℕ) → at ≤ length file → at + length bytes ≤ length (overwritten at bytes file)
reaches at bytes file within =
    let rest = drop (at + length bytes) file in
    omega (arith, length-append (take at file ++ bytes) rest, length-append (take at file) bytes, length-take at file)

pub reaches_record : (at : ℕ) (payload file : List ℕ) → at ≤ length file → at + 36 + length payload ≤ length (overwritten at (record_text Second payload) file)
reaches_record at payload file within = omega (arith, reaches at (record_text Second payload) file within, length-record payload)

pub reaches_head : (at : ℕ) (payload head file : List ℕ) → head ≡ number_text w32 (length payload) ++ sha256 payload → at ≤ length file → at + 36 ≤ length (overwritten at head file)
reaches_head at payload head file is within = omega (arith, reaches at head file within, length-head payload head is)

module _ (front text : List ℕ) where
  -- a record behind a shut gate
  pub staged : (file : List ℕ) → IsShut front file → IsInDoubt front text (overwritten (length front + 1) (text ++ 0 ∷ []) file)
  staged file shut =
      let bytes = text ++ 0 ∷ [] in
      let rest = drop (length front + 1 + length bytes) file in
      let whole : front ++ shut.gate ∷ bytes ≡ front ++ shut.gate ∷ text ++ 0 ∷ [] = sym (append_assoc front (shut.gate ∷ text) (0 ∷ [])) in
      record {
        gate = shut.gate;
        after = rest;
        is = overwritten_shut front bytes file shut ∙ ap (λ (l : List ℕ). l ++ rest) whole ∙ append_assoc (front ++ shut.gate ∷ text) (0 ∷ []) rest;
      }

  pub stays_in_doubt : (file image : List ℕ) → IsInDoubt front text file → Torn (length front) 1 file image → IsInDoubt front text image
  stays_in_doubt file image doubt torn =
      let there = torn_gate front doubt.gate (text ++ 0 ∷ doubt.after) image (subst (λ (f : List ℕ). Torn (length front) 1 f image) (doubt_split front text file doubt) torn) in
      record { gate = there.0; after = doubt.after; is = there.1 ∙ sym (append_assoc front (there.0 ∷ text) (0 ∷ doubt.after)) }

  gate_set : (file : List ℕ) (gate : ℕ) (doubt : IsInDoubt front text file) → overwritten (length front) (gate ∷ []) file ≡ front ++ gate ∷ (text ++ 0 ∷ doubt.after)
  gate_set file gate doubt =
      ap (λ (f : List ℕ). overwritten (length front) (gate ∷ []) f) (doubt_split front text file doubt) ∙ overwritten_gate front doubt.gate gate (text ++ 0 ∷ doubt.after)

  pub opened : (file : List ℕ) → IsInDoubt front text file → IsShut (front ++ 1 ∷ text) (overwritten (length front) (1 ∷ []) file)
  opened file doubt =
      open_shut front text doubt.after (overwritten (length front) (1 ∷ []) file) (gate_set file 1 doubt ∙ sym (append_assoc front (1 ∷ text) (0 ∷ doubt.after)))

  pub closed : (file : List ℕ) → IsInDoubt front text file → IsShut front (overwritten (length front) (0 ∷ []) file)
  closed file doubt = record { gate = 0; after = text ++ 0 ∷ doubt.after; not_open = λ e. absurd (omega (arith, e)); is = gate_set file 0 doubt }

  pub doubt_within : (file : List ℕ) → IsInDoubt front text file → length front + 1 ≤ length file
  doubt_within file doubt = omega (arith, ap length (doubt_split front text file doubt), length-append front (doubt.gate ∷ (text ++ 0 ∷ doubt.after)))
