use Rattle.std.proofs.Common.{ap, sym, ◌∙◌}
use Rattle.ws_model.specs.Due.{place}
use Rattle.ws_order.proofs.Sides.{placed_front, placed_behind}
use Rattle.ws_order.proofs.order.Order.+with.Goals as goal

pub fork-requires-then-is_before : goal.fork-requires-then-is_before
fork-requires-then-is_before g t c = (placed_front g.met.K.Key.laws c.args.new c.in-Some.field-0.top c.args.self c.in-Some.field-0.left.value c.in-Some.field-0.right.value c.boxed.result.value c.in-Some.ensures.is c.in-Some.ensures.rising c.requires (sym c.is_before.ensures ∙ c.if-is_before.true) (c.boxed.ensures ∙ c.with-front.ensures ∙ ap (place g.K.Key.before c.args.new) c.unboxed-front.ensures)).rising

pub fork-requires-else-is_before : goal.fork-requires-else-is_before
fork-requires-else-is_before g t c = (placed_behind g.met.K.Key.laws c.args.new c.in-Some.field-0.top c.args.self c.in-Some.field-0.left.value c.in-Some.field-0.right.value c.boxed-else-is_before.result.value c.in-Some.ensures.is c.in-Some.ensures.rising c.requires (sym c.is_before.ensures ∙ c.if-is_before.false) (c.boxed-else-is_before.ensures ∙ c.with-behind.ensures ∙ ap (place g.K.Key.before c.args.new) c.unboxed-behind.ensures)).rising

pub returns-then-is_before : goal.returns-then-is_before
returns-then-is_before g t c = c.fork-then-is_before.ensures ∙ (placed_front g.met.K.Key.laws c.args.new c.in-Some.field-0.top c.args.self c.in-Some.field-0.left.value c.in-Some.field-0.right.value c.boxed.result.value c.in-Some.ensures.is c.in-Some.ensures.rising c.requires (sym c.is_before.ensures ∙ c.if-is_before.true) (c.boxed.ensures ∙ c.with-front.ensures ∙ ap (place g.K.Key.before c.args.new) c.unboxed-front.ensures)).is

pub returns-else-is_before : goal.returns-else-is_before
returns-else-is_before g t c = c.fork-else-is_before.ensures ∙ (placed_behind g.met.K.Key.laws c.args.new c.in-Some.field-0.top c.args.self c.in-Some.field-0.left.value c.in-Some.field-0.right.value c.boxed-else-is_before.result.value c.in-Some.ensures.is c.in-Some.ensures.rising c.requires (sym c.is_before.ensures ∙ c.if-is_before.false) (c.boxed-else-is_before.ensures ∙ c.with-behind.ensures ∙ ap (place g.K.Key.before c.args.new) c.unboxed-behind.ensures)).is
