use Rattle.std.proofs.Common.{ℕ, List, length, drop, sym, ◌∙◌, ap, subst, arith}
use Rattle.ws_journal.specs.Device.{FindsRecords, as_lists}
use Rattle.ws_journal.proofs.Heads.{used_long, used_rest}
use Rattle.ws_journal.proofs.recover.read_device.Goals as goal

pub returns-then-size-clause-records : goal.returns-then-size-clause-records
returns-then-size-clause-records g c = λ honest generation rest device.
    let file = g.D.Disk.seen c.args.disk.now in
    let some = device.0.gate in
    absurd (omega (arith, used_long c.args.edition generation rest file device.0, c.in_ok-size.ensures.size honest))

pub returns-clause-records : goal.returns-clause-records
returns-clause-records g c = λ honest generation rest device.
    let D = g.D.Disk in
    let file = D.seen c.args.disk.now in
    let same = c.in_ok-size.ensures.seen in
    let there = c.read_records.ensures.records (c.size.ensures.honesty.1 honest) (c.in_ok-size.ensures.size honest ∙ sym (ap length same)) in
    subst (λ (l : List ℕ). FindsRecords c.args.edition l (as_lists c.read_records.result)) (ap (drop 17) same ∙ used_rest c.args.edition generation rest file device.0) there
