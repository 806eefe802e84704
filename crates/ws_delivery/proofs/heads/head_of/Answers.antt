use Rattle.std.proofs.Common.{ap, sym, ◌∙◌}
use Rattle.std.specs.Prelude.{cond, Some, None}
use Rattle.ws_delivery.specs.Indexed.{try_of}
use Rattle.ws_delivery.proofs.RowsByKey.{ascends, first_at, none_at, is_eq, is_ne}
use Rattle.ws_delivery.proofs.heads.head_of.Goals as goal

pub returns-then-key-lease : goal.returns-then-key-lease
returns-then-key-lease c =
    ap (λ z. Some z) c.try_of.ensures
    ∙ ap (λ z. Some (try_of ((z, c.in-Some.key.now.1), c.in-Some.pair.now))) (sym c.if-key-lease.true)
    ∙ sym (ap (λ b. cond b (Some (try_of (c.in-Some.key.now, c.in-Some.pair.now))) None) (is_eq c.in-Some.key.now.0 c.args.lease c.if-key-lease.true))
    ∙ sym (first_at c.args.lease c.args.pairs.now.entries c.next.new.self (c.in-Some.key.now, c.in-Some.pair.now) (ascends c.args.pairs.now.entries c.range.ensures.ordered) (sym (c.range.ensures.between tt) ∙ c.in-Some.ensures.steps))

pub returns-else-key-lease : goal.returns-else-key-lease
returns-else-key-lease c =
    sym (ap (λ b. cond b (Some (try_of (c.in-Some.key.now, c.in-Some.pair.now))) None) (is_ne c.in-Some.key.now.0 c.args.lease c.if-key-lease.false))
    ∙ sym (first_at c.args.lease c.args.pairs.now.entries c.next.new.self (c.in-Some.key.now, c.in-Some.pair.now) (ascends c.args.pairs.now.entries c.range.ensures.ordered) (sym (c.range.ensures.between tt) ∙ c.in-Some.ensures.steps))

pub returns-in-None : goal.returns-in-None
returns-in-None c = sym (none_at c.args.lease c.args.pairs.now.entries (sym (c.range.ensures.between tt) ∙ c.in-None.ensures.steps.0))
