use Rattle.std.proofs.Common.{sym, ◌∙◌, subst}
use Rattle.std.specs.Prelude.{cond, Some, None}
use Rattle.ws_delivery.specs.Table.{IsNextOpen}
use Rattle.ws_delivery.proofs.RowsByKey.{ascends, next_at, none_after, is_eq, is_ne}
use Rattle.ws_delivery.proofs.heads.open_after.Goals as goal

pub returns-then-key-lease : goal.returns-then-key-lease
returns-then-key-lease c =
    let all = next_at c.args.lease c.args.ver c.args.pairs.now.entries c.next.new.self _ (ascends c.args.pairs.now.entries c.range.ensures.ordered) (sym (c.range.ensures.between tt) ∙ c.in-Some.ensures.steps) in
    subst (λ b. IsNextOpen c.args.ver c.args.lease c.args.pairs.now.entries (cond b (Some c.in-Some.key.now.1) None)) (is_eq c.in-Some.key.now.0 c.args.lease c.if-key-lease.true) all

pub returns-else-key-lease : goal.returns-else-key-lease
returns-else-key-lease c =
    let all = next_at c.args.lease c.args.ver c.args.pairs.now.entries c.next.new.self _ (ascends c.args.pairs.now.entries c.range.ensures.ordered) (sym (c.range.ensures.between tt) ∙ c.in-Some.ensures.steps) in
    subst (λ b. IsNextOpen c.args.ver c.args.lease c.args.pairs.now.entries (cond b (Some c.in-Some.key.now.1) None)) (is_ne c.in-Some.key.now.0 c.args.lease c.if-key-lease.false) all

pub returns-in-None : goal.returns-in-None
returns-in-None c = none_after c.args.lease c.args.ver c.args.pairs.now.entries (sym (c.range.ensures.between tt) ∙ c.in-None.ensures.steps.0)
