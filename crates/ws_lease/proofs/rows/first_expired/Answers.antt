use Rattle.std.proofs.Common.{◌≤◌, arith}
use Rattle.ws_lease.proofs.Firsts.{not_after}
use Rattle.ws_lease.proofs.rows.first_expired.Goals as goal

pub returns-then-end-t : goal.returns-then-end-t
returns-then-end-t c =
    (c.in_ok-end.field-0.now.0, c.if-end-t.true, c.in_ok-end.ensures.member, λ y m k. not_after c.in_ok-end.field-0.now (y, m) (c.in_ok-end.ensures.least (y, m) k))

pub returns-else-end-t : goal.returns-else-end-t
returns-else-end-t c =
    λ x n k. let b : c.in_ok-end.field-0.now.0 ≤ x = not_after c.in_ok-end.field-0.now (x, n) (c.in_ok-end.ensures.least (x, n) k) in let f = c.if-end-t.false in omega arith
