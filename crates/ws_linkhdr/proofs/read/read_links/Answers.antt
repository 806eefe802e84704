use Rattle.std.proofs.Common.{◌≡◌, length, arith}
use Rattle.ws_linkhdr.proofs.Places.{fault_within, fault_at_end, read_at_end, only_one}
use Rattle.ws_linkhdr.proofs.read.read_links.Goals as goal

-- a byte may not stand there
pub returns-in_default-clause-cause : goal.returns-in_default-clause-cause
returns-in_default-clause-cause c =
    fault_within c.args.field.now c.loop-at.at c.loop-at.state c.loop-at.items.items c.next.new.items.items c.loop-at.invariant (omega arith)
    (rw c.in_default.is at c.in_ok-next.ensures)

-- the field may not end there
pub returns-in_default-2-clause-cause : goal.returns-in_default-2-clause-cause
returns-in_default-2-clause-cause c =
    let n : c.loop-at.at ≡ length c.args.field.now = omega arith in
    rw (← n) (fault_at_end c.args.field.now c.loop-at.at c.loop-at.state c.loop-at.items.items n c.loop-at.invariant
    (rw c.in_default-2.is at c.in_ok-items.ensures))

pub returns-clause-found : goal.returns-clause-found
returns-clause-found c =
    let n : c.loop-at.at ≡ length c.args.field.now = omega arith in
    read_at_end c.args.field.now c.loop-at.at c.loop-at.state c.loop-at.items.items c.in-Some-2.items.items n c.loop-at.invariant
    (rw c.in-Some-2.is at c.in_ok-items.ensures)

pub returns-clause-only : goal.returns-clause-only
returns-clause-only c =
    let n : c.loop-at.at ≡ length c.args.field.now = omega arith in
    only_one c.args.field.now c.in-Some-2.items.items
    (read_at_end c.args.field.now c.loop-at.at c.loop-at.state c.loop-at.items.items c.in-Some-2.items.items n c.loop-at.invariant
    (rw c.in-Some-2.is at c.in_ok-items.ensures))
