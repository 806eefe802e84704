use Rattle.std.proofs.Common.{◌≡◌, ap, subst, arith}
use Rattle.std.specs.Prelude.{List, ℕ, All}
use Rattle.ws_journal.specs.Text.{IsPayload, texts}
use Rattle.ws_journal.specs.Replaced.{records_len}
use Rattle.ws_journal.proofs.Writing.{length-records}
use Rattle.ws_journal.proofs.Recorded.{payloads_of}
use Rattle.ws_journal.proofs.journal.Journal.upgrade.Goals as goal

pub switch-requires-clause-batches : goal.switch-requires-clause-batches
switch-requires-clause-batches g c =
    let same : texts c.args.batches.now ≡ c.deref-2.result.now = (cc c.in_ok-written.ensures) in
    subst (λ (ps : List (List ℕ)). All IsPayload ps) same (payloads_of c.args.batches.now c.requires.batches)

pub switch-requires-clause-room : goal.switch-requires-clause-room
switch-requires-clause-room g c =
    let same : c.deref.result.now ≡ c.deref-2.result.now = (cc) in
    omega (arith, length-records c.deref-2.result.now, c.records_len-len.ensures, ap records_len same)

pub switch-requires-clause-tail : goal.switch-requires-clause-tail
switch-requires-clause-tail g c =
    let same : c.deref.result.now ≡ c.deref-2.result.now = (cc) in
    omega (arith, length-records c.deref-2.result.now, c.records_len-len.ensures, ap records_len same)
