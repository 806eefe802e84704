-- What the calls of a journal leave of the device that counts.
use Rattle.std.proofs.Common.{◌≡◌, ◌-◌, ◌∷◌, [], ℕ, List, Option, Some, None, Result, Ok, Err, length, sym, ◌∙◌, ap, subst, arith}
use Rattle.std.specs.Prelude.{IsErrAnd}
use Rattle.ws_disk.specs.Crash.{overwritten, Torn, LeavesOnly}
use Rattle.ws_disk.specs.declared.disk.DiskFailed.{DiskFailed}
use Rattle.ws_journal.specs.declared.store.Edition.TheVariants.{Second}
use Rattle.ws_journal.specs.declared.journal.Journal.{Journal}
use Rattle.ws_journal.specs.declared.journal.Doubt.{Doubt}
use Rattle.ws_journal.specs.declared.journal.Doubt.TheVariants.{Nothing, Batch}
use Rattle.ws_journal.specs.Text.{record_text}
use Rattle.ws_journal.specs.Kept.{IsShut, After}
use Rattle.ws_journal.specs.Stands.{IsLeft, Counts, Closes}
use Rattle.ws_journal.proofs.Gates.{while_gate}
use Rattle.ws_journal.proofs.Records.{closed}

not_both : (doubt : Doubt) → doubt ≡ Nothing → doubt ≡ Batch → ⊥
not_both doubt nothing batch = cc

-- while a gate in doubt is closed
pub closing : {D : Type 0} (moment : D → ℕ) (images : D → ℕ → List ℕ → Type 0) (journal : Journal) (front : List ℕ) (doubt : Option (List ℕ)) (old new : D)
    → Counts journal front doubt (images old (moment old)) → journal.doubt ≡ Batch
    → LeavesOnly moment images old new (After (Torn (journal.tail - 1) 1) (images old (moment old))) → LeavesOnly moment images old new (IsLeft front doubt)
closing moment images journal front None old new counts is run = absurd (not_both journal.doubt counts.known is)
closing moment images journal front (Some payload) old new counts is run =
    while_gate moment images front (record_text Second payload) (journal.tail - 1) (omega (arith, counts.tail)) old new counts.each run

-- once it is closed
pub closed_gate : (journal : Journal) (front : List ℕ) (doubt : Option (List ℕ)) (images : List ℕ → Type 0) (before after : List ℕ)
    → Counts journal front doubt images → journal.doubt ≡ Batch → images before → after ≡ overwritten (journal.tail - 1) (0 ∷ []) before → IsShut front after
closed_gate journal front None images before after counts is there written = absurd (not_both journal.doubt counts.known is)
closed_gate journal front (Some payload) images before after counts is there written =
    let place : journal.tail - 1 ≡ length front = omega (arith, counts.tail) in
    let whole : after ≡ overwritten (length front) (0 ∷ []) before = written ∙ ap (λ (n : ℕ). overwritten n (0 ∷ []) before) place in
    subst (IsShut front) (sym whole) (closed front (record_text Second payload) before (counts.each before there))

pub closes_err : (Q : DiskFailed → Type 0) (journal : Journal) (front : List ℕ) (doubt : Option (List ℕ)) (images : List ℕ → Type 0) (r : Result (Unit {0}) DiskFailed)
    → IsErrAnd r Q → Counts journal front doubt images → Closes journal front doubt images r
closes_err Q journal front doubt images (Ok x) failed counts = absurd failed
closes_err Q journal front doubt images (Err e) failed counts = counts
