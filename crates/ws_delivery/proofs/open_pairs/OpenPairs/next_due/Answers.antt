use Rattle.std.proofs.Common.{sym, ◌∙◌, subst}
use Rattle.ws_delivery.specs.NextDue.{IsFirstDue, IsDue}
use Rattle.ws_delivery.proofs.FirstDue.{first_due, none_due}
use Rattle.ws_delivery.proofs.open_pairs.OpenPairs.next_due.Goals as goal

pub returns-in-Some : goal.returns-in-Some
returns-in-Some c =
    subst (λ z. IsFirstDue c.args.t c.args.held.now z c.in-Some.first.ver c.in-Some.first.lease) c.self.view_is
    (first_due c.args.t c.args.held.now c.self.inside.pairs.entries c.self.inside.heads c.in-Some.first c.self.invariant c.first_ready.ensures.rising (sym c.first_ready.ensures.first ∙ c.in-Some.is))

pub returns-in-None : goal.returns-in-None
returns-in-None c v n d =
    none_due c.args.t c.args.held.now c.self.inside.pairs.entries c.self.inside.heads c.self.invariant (sym c.first_ready.ensures.first ∙ c.in-None.is) v n
    (subst (λ z. IsDue c.args.t c.args.held.now z v n) (sym c.self.view_is) d)
