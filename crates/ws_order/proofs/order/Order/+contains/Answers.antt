use Rattle.std.proofs.Common.{ap, sym, ◌∙◌, subst}
use Rattle.ws_order.specs.Orders.{has_key, Rises}
use Rattle.ws_order.specs.Trees.{members}
use Rattle.ws_order.proofs.Sides.{has_behind, has_front}
use Rattle.ws_order.proofs.order.Order.+contains.Goals as goal

pub returns-then-is_before : goal.returns-then-is_before
returns-then-is_before g t c =
    c.contains.ensures ∙ ap (has_key g.K.Key.same c.args.member.now) c.deref.ensures
    ∙ has_front g.met.K.Key.laws c.args.member.now c.in-Fork.top c.args.self.now c.in-Fork.left.value c.in-Fork.right.value
    (sym c.self.view_is ∙ ap members c.in-Fork.is) (subst (Rises g.K.Key.before) c.self.view_is c.self.invariant) (sym c.is_before.ensures ∙ c.if-is_before.true)

pub returns-then-is_before-2 : goal.returns-then-is_before-2
returns-then-is_before-2 g t c =
    c.contains-then-is_before-2.ensures ∙ ap (has_key g.K.Key.same c.args.member.now) c.deref-then-is_before-2.ensures
    ∙ has_behind g.met.K.Key.laws c.args.member.now c.in-Fork.top c.args.self.now c.in-Fork.left.value c.in-Fork.right.value
    (sym c.self.view_is ∙ ap members c.in-Fork.is) (subst (Rises g.K.Key.before) c.self.view_is c.self.invariant) (sym c.is_before-else-is_before.ensures ∙ c.if-is_before-2.true)
