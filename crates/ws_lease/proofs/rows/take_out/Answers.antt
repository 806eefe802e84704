use Rattle.std.proofs.Common.{ap, sym, ◌∙◌, cond, false, ◌&&◌}
use Rattle.std.specs.Prelude.{◌==◌}
use Rattle.ws_lease.specs.Indexed.{has_end}
use Rattle.ws_lease.proofs.Ends.{at_pair, taken_end}
use Rattle.ws_lease.proofs.rows.take_out.Goals as goal

pub returns-then-is_unexpired-clause-ends : goal.returns-then-is_unexpired-clause-ends
returns-then-is_unexpired-clause-ends c =
    λ x q.
    c.remove-2.ensures.updates.0 (x, q)
    ∙ ap (λ b. cond b false (has_end c.args.by_end.now x q)) (at_pair c.end_of.result c.in_ok-n.n x q)
    ∙ ap (λ e. cond ((e == x) && (c.in_ok-n.n == q)) false (has_end c.args.by_end.now x q)) c.end_of.ensures
    ∙ taken_end c.args.by_number.now.entries c.args.number c.in_ok-n.n c.in_ok-lease.lease x q (has_end c.args.by_end.now x q) c.in_ok-n.was (sym c.in_ok-lease.ensures.value)

pub returns-clause-ends : goal.returns-clause-ends
returns-clause-ends c =
    λ x q.
    c.remove-2.ensures.updates.0 (x, q)
    ∙ ap (λ b. cond b false (has_end c.args.by_end.now x q)) (at_pair c.end_of.result c.in_ok-n.n x q)
    ∙ ap (λ e. cond ((e == x) && (c.in_ok-n.n == q)) false (has_end c.args.by_end.now x q)) c.end_of.ensures
    ∙ taken_end c.args.by_number.now.entries c.args.number c.in_ok-n.n c.in_ok-lease.lease x q (has_end c.args.by_end.now x q) c.in_ok-n.was (sym c.in_ok-lease.ensures.value)
