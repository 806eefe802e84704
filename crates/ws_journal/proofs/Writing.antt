-- What a run of writes behind a place leaves of a file.
use Rattle.std.proofs.Common.{◌≡◌, ℕ, ◌+◌, ◌≤◌, ◌<◌, min, List, [], ◌∷◌, ◌++◌, length, take, drop, sym, ◌∙◌, ap, arith, append_assoc, length-append, refl, get_or, take-append-drop}
use Rattle.std.proofs.lemmas.List.{take-take, take_min, take_more, append-nil}
use Rattle.std.proofs.lemmas.List.Sums.{sum_by-cons}
use Rattle.ws_disk.specs.Crash.{overwritten, LeavesOnly}
use Rattle.ws_journal.specs.declared.store.Edition.TheVariants.{Second}
use Rattle.ws_journal.specs.Text.{record_text, records}
use Rattle.ws_journal.specs.Kept.{Keeps, After, Each}
use Rattle.ws_journal.specs.Replaced.{records_len}
use Rattle.ws_journal.proofs.Moments.{then_run, weaker}
use Rattle.ws_journal.proofs.Files.{overwritten_on}
use Rattle.ws_journal.proofs.Records.{length-record}
use Rattle.ws_journal.proofs.Readings.{records-push}

-- what stays before a place stays before a lesser one
pub Keeps-less : (less place : ℕ) (old new : List ℕ) → less ≤ place → Keeps place old new → Keeps less old new
Keeps-less less place old new le keeps =
    let m = min less (length old) in
    let k = min place (length old) in
    let low : m ≤ k = omega arith in
    let within : m ≤ place = omega arith in
    record {
      before = sym (take-take m k new low) ∙ ap (λ (l : List ℕ). take m l) keeps.before ∙ take-take m place old within ∙ take_min less old;
      no_shorter = keeps.no_shorter;
    }

-- a run of steps after another one
module _ {D : Type 0} (moment : D → ℕ) (images : D → ℕ → List ℕ → Type 0) (step : List ℕ → List ℕ → Type 0) (both : (x y z : List ℕ) → step x y → step y z → step x z) where
  abbrev Now : D → List ℕ → Type 0
  Now disk = images disk (moment disk)

  pub then_steps : (old mid new : D) → LeavesOnly moment images old mid (After step (Now old)) → Each (Now mid) (After step (Now old))
      → LeavesOnly moment images mid new (After step (Now mid)) → LeavesOnly moment images old new (After step (Now old))
  then_steps old mid new first here second =
      then_run moment images old mid new (After step (Now old)) first
      (weaker moment images mid new (After step (Now mid)) (After step (Now old))
      (λ image after. let from = here after.0 after.1 in (from.0, from.1, both from.0 after.0 image from.2 after.2)) second)

-- a run whose steps stay behind a later place stays behind this one
pub behind : {D : Type 0} (moment : D → ℕ) (images : D → ℕ → List ℕ → Type 0) (less place : ℕ) → less ≤ place → (old new : D)
    → LeavesOnly moment images old new (After (Keeps place) (images old (moment old))) → LeavesOnly moment images old new (After (Keeps less) (images old (moment old)))
behind moment images less place le old new run =
    weaker moment images old new (After (Keeps place) (images old (moment old))) (After (Keeps less) (images old (moment old)))
    (λ image after. (after.0, after.1, Keeps-less less place after.0 image le after.2)) run

pub overwritten-nil : (at : ℕ) (file : List ℕ) → overwritten at [] file ≡ file
overwritten-nil at file =
    let same : at + 0 ≡ at = omega arith in
    let head = append-nil (take at file) in
    (λ i. head i ++ drop (same i) file) ∙ take-append-drop at file

-- the gate and then what stands behind it
pub record_opened : (at : ℕ) (payload file : List ℕ) → at ≤ length file
    → overwritten (at + 1) (record_text Second payload) (overwritten at (1 ∷ []) file) ≡ overwritten at (1 ∷ record_text Second payload) file
record_opened at payload file within = overwritten_on at (1 ∷ []) (record_text Second payload) file within

pub records-append : (first second : List (List ℕ)) → records Second (first ++ second) ≡ records Second first ++ records Second second
records-append [] second = refl
records-append (payload ∷ first) second =
    ap (λ (l : List ℕ). 1 ∷ record_text Second payload ++ l) (records-append first second)
    ∙ sym (append_assoc (1 ∷ record_text Second payload) (records Second first) (records Second second))

-- the first records are no longer than all
pub records-le : (payloads : List (List ℕ)) (i : ℕ) → length (records Second (take i payloads)) ≤ length (records Second payloads)
records-le payloads i =
    let first = records Second (take i payloads) in
    let rest = records Second (drop i payloads) in
    let whole : records Second payloads ≡ first ++ rest =
    ap (records Second) (sym (take-append-drop i payloads)) ∙ records-append (take i payloads) (drop i payloads) in
    omega (arith, ap length whole, length-append first rest)

-- one record more
pub records_more : (payloads : List (List ℕ)) (i : ℕ) (payload : List ℕ) → i < length payloads → get_or payloads i payload ≡ payload
    → records Second (take (i + 1) payloads) ≡ records Second (take i payloads) ++ 1 ∷ record_text Second payload
records_more payloads i payload within is =
    ap (records Second) (take_more payloads i payload within ∙ ap (λ (p : List ℕ). take i payloads ++ p ∷ []) is) ∙ records-push Second (take i payloads) payload

pub length-records_more : (payloads : List (List ℕ)) (i : ℕ) (payload : List ℕ) → i < length payloads → get_or payloads i payload ≡ payload
    → length (records Second (take (i + 1) payloads)) ≡ length (records Second (take i payloads)) + (length payload + 37)
length-records_more payloads i payload within is =
    let first = records Second (take i payloads) in
    omega (arith, ap length (records_more payloads i payload within is), length-append first (1 ∷ record_text Second payload), length-record payload)

pub written_more : (at end : ℕ) (payloads : List (List ℕ)) (i : ℕ) (payload file : List ℕ) → at ≤ length file → end ≡ at + length (records Second (take i payloads))
    → i < length payloads → get_or payloads i payload ≡ payload
    → overwritten end (1 ∷ record_text Second payload) (overwritten at (records Second (take i payloads)) file) ≡ overwritten at (records Second (take (i + 1) payloads)) file
written_more at end payloads i payload file place is within item =
    let first = records Second (take i payloads) in
    let text = 1 ∷ record_text Second payload in
    ap (λ (n : ℕ). overwritten n text (overwritten at first file)) is ∙ overwritten_on at first text file place
    ∙ ap (λ (l : List ℕ). overwritten at l file) (sym (records_more payloads i payload within item))

-- what the records come to
pub length-records : (payloads : List (List ℕ)) → length (records Second payloads) ≡ records_len payloads
length-records [] = refl
length-records (payload ∷ payloads) =
    omega (
      arith,
      length-append (1 ∷ record_text Second payload) (records Second payloads),
      length-record payload,
      length-records payloads,
      sum_by-cons (λ (p : List ℕ). length p + 37) payload payloads,
    )
