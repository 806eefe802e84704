use Rattle.std.proofs.Common.{ap, ◌∙◌, cond, true, false}
use Rattle.std.specs.BTreeMap.{is_at}
use Rattle.ws_lease.specs.Indexed.{end_order, has_end}
use Rattle.ws_lease.proofs.Ends.{at_pair, undone}
use Rattle.ws_lease.proofs.rows.add.Goals as goal

pub returns-in-Ok-clause-ends : goal.returns-in-Ok-clause-ends
returns-in-Ok-clause-ends c =
    λ x q.
    c.in_ok-insert.ensures.updates.0 (x, q)
    ∙ ap (λ b. cond b true (has_end c.args.by_end.now x q)) (at_pair c.args.end c.args.n x q)

pub returns-in-Err-clause-same_ends : goal.returns-in-Err-clause-same_ends
returns-in-Err-clause-same_ends c =
    λ x q.
    c.remove.ensures.updates.0 (x, q)
    ∙ ap (cond (is_at (end_order (c.args.end, c.args.n)) (x, q)) false) (c.in_ok-insert.ensures.updates.0 (x, q))
    ∙ ap (λ b. cond b false (cond b true (has_end c.args.by_end.now x q))) (at_pair c.args.end c.args.n x q)
    ∙ undone c.args.end c.args.n x q (has_end c.args.by_end.now) c.requires.new_end
