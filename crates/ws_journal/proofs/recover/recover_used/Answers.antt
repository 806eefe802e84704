use Rattle.std.proofs.Common.{◌∙◌}
use Rattle.ws_journal.specs.Text.{texts}
use Rattle.ws_journal.specs.Recovered.{StillReads, opened}
use Rattle.ws_journal.proofs.Results.{err_as}
use Rattle.ws_journal.proofs.Opening.{stands_found, fault_reads, tail_on}
use Rattle.ws_journal.proofs.recover.recover_used.Goals as goal

pub returns-in_err-batches-clause-given : goal.returns-in_err-batches-clause-given
returns-in_err-batches-clause-given g c = λ honest_a honest_b rest there.
    let D = g.D.Disk in
    let a = D.seen c.args.store.now.a in
    let b = D.seen c.args.store.now.b in
    let fault = c.in_err-batches.field-0.0 in
    err_as (λ (r : _). StillReads a b (opened r)) c.from_residual.result fault c.from_residual.ensures.1
    (fault_reads c.args.counting.side c.args.counting.edition c.args.counting.generation rest a b fault there (c.in_err-batches.ensures.records honest_a honest_b rest there))

pub returns-clause-stands : goal.returns-clause-stands
returns-clause-stands g c = λ honest_a honest_b rest there confirmed settled.
    let D = g.D.Disk in
    let counting = c.args.counting in
    let a = D.seen c.args.store.now.a in
    let b = D.seen c.args.store.now.b in
    let read = c.in_ok-batches.ensures in
    let given = read.records honest_a honest_b rest there in
    let same_a = (read.reads_a.unwritten honest_a).same in
    let same_b = (read.reads_b.unwritten honest_b).same in (
      stands_found D.moment D.images counting.side counting.edition counting.generation c.in_ok-batches.tail c.args.limit _ _ c.read_counting.new.store a b rest (texts c.in_ok-batches.batches.items)
          (λ image now. confirmed image now ∙ same_a) (λ image now. settled image now ∙ same_b) there given.0 given.2,
      given.1,
    )

pub returns-clause-place : goal.returns-clause-place
returns-clause-place g c = λ first second.
    let D = g.D.Disk in
    let read = c.in_ok-batches.ensures in
    tail_on D.honest D.seen D.moment D.images D.faults c.in_ok-batches.tail c.args.store.now c.read_counting.new.store first second read.reads_a read.reads_b c.args.counting.side read.within
