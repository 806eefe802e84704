use Rattle.std.proofs.Common.{ℕ, List, Err, length, ap, subst, arith}
use Rattle.ws_journal.specs.Device.{Checks, FindsRecord}
use Rattle.ws_journal.proofs.Found.{record_at, checked}
use Rattle.ws_journal.proofs.Results.{err_as}
use Rattle.ws_journal.proofs.scan.read_record.Goals as goal

pub returns-in_err-events-clause-record : goal.returns-in_err-events-clause-record
returns-in_err-events-clause-record g c = λ honest size.
    let file = g.D.Disk.seen c.args.disk.now in
    let found = c.in-Some.field-0 in
    let whole = rw c.in-Some.is at (c.in_ok-kept.ensures.whole honest size) in
    let next = rw c.in-Some.is at c.in_ok-kept.ensures.next in
    let fault = c.in_err-events.field-0.0 in
    let checks = subst (λ (l : List ℕ). Checks c.args.at found.kept l (Err fault)) (c.deref.ensures.value) c.in_err-events.ensures in
    let there = checked c.args.edition c.args.at found.next found.kept found.payload.items file fault whole.0 (omega (arith, next.1, size)) checks in
    err_as (FindsRecord c.args.edition c.args.at file) c.from_residual-in_err-events.result fault c.from_residual-in_err-events.ensures.1 there

pub returns-clause-record : goal.returns-clause-record
returns-clause-record g c = λ honest size.
    let file = g.D.Disk.seen c.args.disk.now in
    let found = c.in-Some.field-0 in
    let whole = rw c.in-Some.is at (c.in_ok-kept.ensures.whole honest size) in
    let checks = rw c.deref.ensures.value at c.in_ok-events.ensures in
    record_at c.args.edition c.args.at found.next found.kept found.payload.items file whole.0 c.in_ok-events.events whole.1 checks.0 checks.1 checks.2

pub returns-clause-batch : goal.returns-clause-batch
returns-clause-batch g c = let checks = rw c.deref.ensures.value at c.in_ok-events.ensures in checks.1

pub returns-clause-short : goal.returns-clause-short
returns-clause-short g c =
    let checks = rw c.deref.ensures.value at c.in_ok-events.ensures in
    let short = rw c.in-Some.is at c.in_ok-kept.ensures.short in
    omega (arith, short, ap length checks.2)
