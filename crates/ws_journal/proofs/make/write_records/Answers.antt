use Rattle.std.proofs.Common.{◌≡◌, ◌+◌, ◌∷◌, length, take, get_or, ◌∙◌, ap, arith}
use Rattle.ws_disk.specs.Crash.{overwritten}
use Rattle.ws_journal.specs.declared.store.Edition.TheVariants.{Second}
use Rattle.ws_journal.specs.Text.{record_text, records}
use Rattle.ws_journal.specs.Kept.{Keeps, After}
use Rattle.ws_journal.proofs.Files.{Keeps-trans}
use Rattle.ws_journal.proofs.Moments.{at_end}
use Rattle.ws_journal.proofs.Records.{reaches}
use Rattle.ws_journal.proofs.Writing.{then_steps, behind, records-le, length-records_more, written_more}
use Rattle.ws_journal.proofs.make.write_records.Goals as goal

pub write_record-requires-clause-place : goal.write_record-requires-clause-place
write_record-requires-clause-place g c = λ honest1.
    let D = g.D.Disk in
    let honest = c.loop-batch.invariant.honesty.0 honest1 in
    let first = records Second (take c.loop-batch.batch-index c.args.batches.now) in
    omega (arith, c.loop-batch.invariant.end, reaches c.args.at first (D.seen c.args.disk.now) (c.requires.place honest), ap length (c.loop-batch.invariant.written honest))

pub write_record-requires-clause-room : goal.write_record-requires-clause-room
write_record-requires-clause-room g c =
    omega (arith, c.loop-batch.invariant.end, records-le c.args.batches.now c.loop-batch.batch-index, c.requires.room)

pub returns-in_err-write_record-clause-any_moment : goal.returns-in_err-write_record-clause-any_moment
returns-in_err-write_record-clause-any_moment g c = λ honest.
    let D = g.D.Disk in
    let at = c.args.at in
    let old = c.args.disk.now in
    let mid = c.loop-batch.disk in
    let new = c.write_record.new.disk in
    let honest1 = c.loop-batch.invariant.honesty.1 honest in
    let run = c.loop-batch.invariant.run honest in
    let here = at_end D.moment D.images old mid (After (Keeps at) (D.images old (D.moment old))) (λ t later image le left. g.met.D.Disk.images_grow mid t later image honest1 le left) run in
    then_steps D.moment D.images (Keeps at) (Keeps-trans at) old mid new run here
    (behind D.moment D.images at c.loop-batch.end (omega (arith, c.loop-batch.invariant.end)) mid new (c.write_record.ensures.any_moment honest1))

pub overflow_add-end-in-loop-batch : goal.overflow_add-end-in-loop-batch
overflow_add-end-in-loop-batch g c =
    let batches = c.args.batches.now in
    let i = c.loop-batch.batch-index in
    let payload = c.batch-item.result in
    let item : get_or batches i payload ≡ payload = (cc) in
    let same : length c.as_slice-payload.result.now ≡ length payload = (cc) in
    omega (arith, c.loop-batch.invariant.end, length-records_more batches i payload c.loop-batch-test.true item, records-le batches (i + 1), c.requires.room, same)

pub loop-batch-preserved : goal.loop-batch-preserved
loop-batch-preserved g c =
    let D = g.D.Disk in
    let at = c.args.at in
    let batches = c.args.batches.now in
    let i = c.loop-batch.batch-index in
    let payload = c.batch-item.result in
    let old = c.args.disk.now in
    let mid = c.loop-batch.disk in
    let new = c.write_record.new.disk in
    let item : get_or batches i payload ≡ payload = (cc) in
    let slice : c.as_slice-payload.result.now ≡ payload = (cc) in
    let same : length c.as_slice-payload.result.now ≡ length payload = ap length slice in
    let text = 1 ∷ record_text Second payload in
    record {
      end = omega (arith, c.loop-batch.invariant.end, length-records_more batches i payload c.loop-batch-test.true item, same);
      honesty = ((λ h. c.loop-batch.invariant.honesty.0 (c.write_record.ensures.honesty.0 h)), (λ h. c.write_record.ensures.honesty.1 (c.loop-batch.invariant.honesty.1 h)));
      written = λ honest.
          c.in_ok-write_record.ensures.written (c.loop-batch.invariant.honesty.1 honest)
          ∙ (λ k. overwritten c.loop-batch.end (1 ∷ record_text Second (slice k)) (c.loop-batch.invariant.written honest k))
          ∙ written_more at c.loop-batch.end batches i payload (D.seen old) (c.requires.place honest) c.loop-batch.invariant.end c.loop-batch-test.true item;
      run = λ honest.
          let honest1 = c.loop-batch.invariant.honesty.1 honest in
          let run = c.loop-batch.invariant.run honest in
          let here = at_end D.moment D.images old mid (After (Keeps at) (D.images old (D.moment old))) (λ t later image le left. g.met.D.Disk.images_grow mid t later image honest1 le left) run in
          then_steps D.moment D.images (Keeps at) (Keeps-trans at) old mid new run here
          (behind D.moment D.images at c.loop-batch.end (omega (arith, c.loop-batch.invariant.end)) mid new (c.write_record.ensures.any_moment honest1));
      later = omega (arith, c.loop-batch.invariant.later, c.write_record.ensures.cause.later);
    }
