use Rattle.std.proofs.Common.{ap, sym, ◌∙◌, subst, find}
use Rattle.ws_order.specs.Orders.{Rises}
use Rattle.ws_order.specs.Trees.{members}
use Rattle.ws_order.proofs.Sides.{none_wanted, wanted_behind, wanted_between, wanted_in_front}
use Rattle.ws_order.proofs.order.Order.+found.Goals as goal

pub returns-in-Some : goal.returns-in-Some
returns-in-Some g t c =
    sym (wanted_in_front (g.S.Sought.wanted c.args.sought.now) c.args.self.now c.in-Fork.left.value c.in-Fork.right.value c.in-Fork.top (sym c.self.view_is ∙ ap members c.in-Fork.is) c.in-Some.found
    (ap (find (g.S.Sought.wanted c.args.sought.now)) (sym c.deref.ensures) ∙ sym c.found.ensures ∙ c.in-Some.is))

pub returns-then-is_wanted : goal.returns-then-is_wanted
returns-then-is_wanted g t c =
    sym (wanted_between (g.S.Sought.wanted c.args.sought.now) c.args.self.now c.in-Fork.left.value c.in-Fork.right.value c.in-Fork.top (sym c.self.view_is ∙ ap members c.in-Fork.is)
    (ap (find (g.S.Sought.wanted c.args.sought.now)) (sym c.deref.ensures) ∙ sym c.found.ensures ∙ c.in_default.is) (sym c.is_wanted.ensures ∙ c.if-is_wanted.true))

pub returns-then-is_past : goal.returns-then-is_past
returns-then-is_past g t c =
    sym (none_wanted g.met.K.Key.laws (g.S.Sought.wanted c.args.sought.now) c.args.self.now c.in-Fork.left.value c.in-Fork.right.value c.in-Fork.top (sym c.self.view_is ∙ ap members c.in-Fork.is) (subst (Rises g.K.Key.before) c.self.view_is c.self.invariant)
    (ap (find (g.S.Sought.wanted c.args.sought.now)) (sym c.deref.ensures) ∙ sym c.found.ensures ∙ c.in_default.is) (sym c.is_wanted.ensures ∙ c.if-is_wanted.false)
    (λ y p. c.requires.past c.in-Fork.top y (sym c.is_past.ensures ∙ c.if-is_past.true) p))

pub returns-else-is_past : goal.returns-else-is_past
returns-else-is_past g t c =
    c.found-in-Fork.ensures ∙ ap (find (g.S.Sought.wanted c.args.sought.now)) c.deref-in-Fork.ensures
    ∙ sym (wanted_behind (g.S.Sought.wanted c.args.sought.now) c.args.self.now c.in-Fork.left.value c.in-Fork.right.value c.in-Fork.top (sym c.self.view_is ∙ ap members c.in-Fork.is)
    (ap (find (g.S.Sought.wanted c.args.sought.now)) (sym c.deref.ensures) ∙ sym c.found.ensures ∙ c.in_default.is) (sym c.is_wanted.ensures ∙ c.if-is_wanted.false))
