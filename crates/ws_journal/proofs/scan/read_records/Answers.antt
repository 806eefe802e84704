use Rattle.std.proofs.Common.{ℕ, List, Err, length, drop, sym, ◌∙◌, ap, subst, arith}
use Rattle.std.specs.Prelude.{All}
use Rattle.std.proofs.lemmas.List.Elements.{All-push}
use Rattle.ws_journal.specs.declared.store.Batch.{Batch}
use Rattle.ws_journal.specs.Text.{IsRecorded}
use Rattle.ws_journal.specs.Device.{StandsShut, IsRecordAt, FindsRecord, FindsRecords, as_lists}
use Rattle.ws_journal.proofs.Found.{SoFar, one_more, at_end, fault_at}
use Rattle.ws_journal.proofs.Looking.{then_calls}
use Rattle.ws_journal.proofs.Results.{err_as}
use Rattle.ws_journal.proofs.scan.read_records.Goals as goal

pub returns-in_err-record-clause-records : goal.returns-in_err-record-clause-records
returns-in_err-record-clause-records g c = λ honest size.
    let D = g.D.Disk in
    let file = D.seen c.args.disk.now in
    let loop = c.loop-batches in
    let same = (loop.invariant.reads.unwritten honest).same in
    let fault = c.in_err-record.field-0.0 in
    let there = subst (λ (f : List ℕ). FindsRecord c.args.edition loop.at f (Err fault)) same
    (c.in_err-record.ensures.record (loop.invariant.reads.honesty.1 honest) (size ∙ sym (ap length same))) in
    err_as (λ (r : _). FindsRecords c.args.edition (drop 17 file) (as_lists r)) c.from_residual.result fault c.from_residual.ensures.1
    (fault_at c.args.edition loop.at file loop.batches.items fault (loop.invariant.so_far honest size) there)

pub loop-batches-preserved : goal.loop-batches-preserved
loop-batches-preserved g c =
    let D = g.D.Disk in
    let file = D.seen c.args.disk.now in
    let loop = c.loop-batches in
    let one = c.in-Some.record in
    let next = rw c.in-Some.is at c.in_ok-record.ensures.next in
    let batch = rw c.in-Some.is at c.in_ok-record.ensures.batch in
    let short = rw c.in-Some.is at c.in_ok-record.ensures.short in
    record {
      begun = omega (arith, loop.invariant.begun, next.0);
      within = next.1;
      shows = c.in_ok-record.ensures.shows;
      reads = then_calls D.honest D.seen D.moment D.images D.faults c.args.disk.now loop.disk c.read_record.new.disk loop.invariant.reads c.in_ok-record.ensures.reads;
      recorded = subst (All IsRecorded) (sym c.in_ok-push.ensures.items)
          (All-push IsRecorded loop.batches.items (record { at = loop.at; events = one.events }) loop.invariant.recorded (record { events = batch; short = short }));
      so_far = λ honest size.
          let same = (loop.invariant.reads.unwritten honest).same in
          let read = rw c.in-Some.is at (c.in_ok-record.ensures.record (loop.invariant.reads.honesty.1 honest) (size ∙ sym (ap length same))) in
          let there = subst (IsRecordAt c.args.edition loop.at one.next one.events) same read in
          subst (λ (l : List Batch). SoFar c.args.edition one.next file l) (sym c.in_ok-push.ensures.items)
          (one_more c.args.edition loop.at file loop.batches.items (loop.invariant.so_far honest size) one.next one.events there);
    }

pub returns-clause-records : goal.returns-clause-records
returns-clause-records g c = λ honest size.
    let D = g.D.Disk in
    let file = D.seen c.args.disk.now in
    let loop = c.loop-batches in
    let same = (loop.invariant.reads.unwritten honest).same in
    let shut = rw c.in_default.is at (c.in_ok-record.ensures.record (loop.invariant.reads.honesty.1 honest) (size ∙ sym (ap length same))) in
    at_end c.args.edition loop.at file loop.batches.items (loop.invariant.so_far honest size) (subst (λ (f : List ℕ). StandsShut (drop loop.at f)) same shut)
