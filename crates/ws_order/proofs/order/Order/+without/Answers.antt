use Rattle.std.proofs.Common.{not, is_some, ap, sym, ◌∙◌}
use Rattle.std.specs.Prelude.{filter}
use Rattle.ws_order.specs.Orders.{has_key}
use Rattle.ws_order.proofs.Sides.{without_front, without_behind, without_between}
use Rattle.ws_order.proofs.order.Order.+without.Goals as goal

pub fork-requires : goal.fork-requires
fork-requires g t c = (without_front g.met.K.Key.laws c.args.member.now c.in-Some.field-0.top c.args.self c.in-Some.field-0.left.value c.in-Some.field-0.right.value c.boxed.result.value (is_some c.without-front.result.1) c.in-Some.ensures.is c.in-Some.ensures.rising (sym c.is_before.ensures ∙ c.if-is_before.true) (c.boxed.ensures ∙ c.without-front.ensures.left ∙ ap (filter (λ x. not (g.K.Key.same c.args.member.now x))) c.unboxed-front.ensures) (c.without-front.ensures.found ∙ ap (has_key g.K.Key.same c.args.member.now) c.unboxed-front.ensures)).rising

pub fork-requires-then-is_before-2 : goal.fork-requires-then-is_before-2
fork-requires-then-is_before-2 g t c = (without_behind g.met.K.Key.laws c.args.member.now c.in-Some.field-0.top c.args.self c.in-Some.field-0.left.value c.in-Some.field-0.right.value c.boxed-then-is_before-2.result.value (is_some c.without-behind.result.1) c.in-Some.ensures.is c.in-Some.ensures.rising (sym c.is_before-else-is_before.ensures ∙ c.if-is_before-2.true) (c.boxed-then-is_before-2.ensures ∙ c.without-behind.ensures.left ∙ ap (filter (λ x. not (g.K.Key.same c.args.member.now x))) c.unboxed-behind.ensures) (c.without-behind.ensures.found ∙ ap (has_key g.K.Key.same c.args.member.now) c.unboxed-behind.ensures)).rising

pub joined-rest-requires : goal.joined-rest-requires
joined-rest-requires g t c = (without_between g.met.K.Key.laws c.args.member.now c.in-Some.field-0.top c.args.self c.in-Some.field-0.left.value c.in-Some.field-0.right.value c.in-Some.ensures.is c.in-Some.ensures.rising (sym c.is_before.ensures ∙ c.if-is_before.false) (sym c.is_before-else-is_before.ensures ∙ c.if-is_before-2.false)).rising

pub returns-then-is_before-clause-found : goal.returns-then-is_before-clause-found
returns-then-is_before-clause-found g t c = (without_front g.met.K.Key.laws c.args.member.now c.in-Some.field-0.top c.args.self c.in-Some.field-0.left.value c.in-Some.field-0.right.value c.boxed.result.value (is_some c.without-front.result.1) c.in-Some.ensures.is c.in-Some.ensures.rising (sym c.is_before.ensures ∙ c.if-is_before.true) (c.boxed.ensures ∙ c.without-front.ensures.left ∙ ap (filter (λ x. not (g.K.Key.same c.args.member.now x))) c.unboxed-front.ensures) (c.without-front.ensures.found ∙ ap (has_key g.K.Key.same c.args.member.now) c.unboxed-front.ensures)).found

pub returns-then-is_before-clause-left : goal.returns-then-is_before-clause-left
returns-then-is_before-clause-left g t c = c.fork.ensures ∙ (without_front g.met.K.Key.laws c.args.member.now c.in-Some.field-0.top c.args.self c.in-Some.field-0.left.value c.in-Some.field-0.right.value c.boxed.result.value (is_some c.without-front.result.1) c.in-Some.ensures.is c.in-Some.ensures.rising (sym c.is_before.ensures ∙ c.if-is_before.true) (c.boxed.ensures ∙ c.without-front.ensures.left ∙ ap (filter (λ x. not (g.K.Key.same c.args.member.now x))) c.unboxed-front.ensures) (c.without-front.ensures.found ∙ ap (has_key g.K.Key.same c.args.member.now) c.unboxed-front.ensures)).is

pub returns-then-is_before-2-clause-found : goal.returns-then-is_before-2-clause-found
returns-then-is_before-2-clause-found g t c = (without_behind g.met.K.Key.laws c.args.member.now c.in-Some.field-0.top c.args.self c.in-Some.field-0.left.value c.in-Some.field-0.right.value c.boxed-then-is_before-2.result.value (is_some c.without-behind.result.1) c.in-Some.ensures.is c.in-Some.ensures.rising (sym c.is_before-else-is_before.ensures ∙ c.if-is_before-2.true) (c.boxed-then-is_before-2.ensures ∙ c.without-behind.ensures.left ∙ ap (filter (λ x. not (g.K.Key.same c.args.member.now x))) c.unboxed-behind.ensures) (c.without-behind.ensures.found ∙ ap (has_key g.K.Key.same c.args.member.now) c.unboxed-behind.ensures)).found

pub returns-then-is_before-2-clause-left : goal.returns-then-is_before-2-clause-left
returns-then-is_before-2-clause-left g t c = c.fork-then-is_before-2.ensures ∙ (without_behind g.met.K.Key.laws c.args.member.now c.in-Some.field-0.top c.args.self c.in-Some.field-0.left.value c.in-Some.field-0.right.value c.boxed-then-is_before-2.result.value (is_some c.without-behind.result.1) c.in-Some.ensures.is c.in-Some.ensures.rising (sym c.is_before-else-is_before.ensures ∙ c.if-is_before-2.true) (c.boxed-then-is_before-2.ensures ∙ c.without-behind.ensures.left ∙ ap (filter (λ x. not (g.K.Key.same c.args.member.now x))) c.unboxed-behind.ensures) (c.without-behind.ensures.found ∙ ap (has_key g.K.Key.same c.args.member.now) c.unboxed-behind.ensures)).is

pub returns-else-is_before-2-clause-left : goal.returns-else-is_before-2-clause-left
returns-else-is_before-2-clause-left g t c = c.joined-rest.ensures ∙ (without_between g.met.K.Key.laws c.args.member.now c.in-Some.field-0.top c.args.self c.in-Some.field-0.left.value c.in-Some.field-0.right.value c.in-Some.ensures.is c.in-Some.ensures.rising (sym c.is_before.ensures ∙ c.if-is_before.false) (sym c.is_before-else-is_before.ensures ∙ c.if-is_before-2.false)).is
