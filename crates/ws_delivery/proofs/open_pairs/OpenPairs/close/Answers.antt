use Rattle.std.proofs.Common.{◌≡◌, ◌+◌, ap, sym, ◌∙◌, subst}
use Rattle.std.specs.Prelude.{None, IfSome, IsSome, cond, not, ◌&&◌, ◌||◌}
use Rattle.ws_order.specs.NextTries.{has, same}
use Rattle.ws_delivery.specs.Table.{pair_at, is_here, number_of}
use Rattle.ws_delivery.specs.Indexed.{is_it}
use Rattle.ws_delivery.proofs.RowsByKey.{looks_by_key, no_some_pair, removed_number_of}
use Rattle.ws_delivery.proofs.FirstPairs.{indexed_after, headed_after, head_is_new, head_is_there, head_leases}
use Rattle.ws_delivery.proofs.open_pairs.OpenPairs.close.Goals as goal

pub unreachable-requires : goal.unreachable-requires
unreachable-requires c = no_some_pair c.args.lease c.args.ver c.self.inside.pairs.entries (sym c.head_of.ensures ∙ c.in_default.is) (subst (λ z. IsSome (pair_at c.args.ver c.args.lease z)) (sym c.self.view_is) c.requires.is_open)

pub follow-requires-clause-there : goal.follow-requires-clause-there
follow-requires-clause-there c = head_is_there c.self.inside.pairs.entries c.self.inside.heads c.args.lease c.in-Some.before c.self.invariant (sym c.head_of.ensures ∙ c.in-Some.is)

pub follow-requires-clause-new : goal.follow-requires-clause-new
follow-requires-clause-new c =
    head_is_new c.self.inside.pairs.entries c.self.inside.heads c.args.lease c.in-Some.before c.head_of-after.result c.self.invariant (sym c.head_of.ensures ∙ c.in-Some.is)
    (subst (λ o. IfSome o (λ y. y.lease ≡ c.args.lease)) (sym c.head_of-after.ensures) (head_leases c.args.lease c.remove.new.self.entries c.remove.ensures.ordered))

pub invariant_of-self : goal.invariant_of-self
invariant_of-self c =
    let look = looks_by_key c.self.inside.pairs.entries c.remove.new.self.entries c.args.ver c.args.lease None c.remove.ensures.updates.0 in
    indexed_after c.self.inside.pairs.entries c.remove.new.self.entries c.self.inside.heads c.follow.new.heads c.args.ver c.args.lease None c.self.invariant c.remove.ensures.ordered look tt
    (headed_after c.self.inside.pairs.entries c.remove.new.self.entries c.self.inside.heads c.follow.new.heads c.args.ver c.args.lease None c.in-Some.before c.self.invariant c.remove.ensures.ordered look (sym c.head_of.ensures ∙ c.in-Some.is)
    (λ y. c.follow.ensures y ∙ ap (λ o. is_it y o || (has y c.self.inside.heads && not (same c.in-Some.before y))) c.head_of-after.ensures))

pub returns-clause-look : goal.returns-clause-look
returns-clause-look c v n =
    looks_by_key c.self.inside.pairs.entries c.remove.new.self.entries c.args.ver c.args.lease None c.remove.ensures.updates.0 v n ∙ ap (λ z. cond (is_here c.args.ver c.args.lease v n) None (pair_at v n z)) c.self.view_is

pub returns-clause-number : goal.returns-clause-number
returns-clause-number c =
    ap (λ z. number_of c.args.lease z + 1) c.remove.ensures.entries
    ∙ removed_number_of c.args.ver c.args.lease c.self.inside.pairs.entries (subst (λ z. IsSome (pair_at c.args.ver c.args.lease z)) (sym c.self.view_is) c.requires.is_open)
    ∙ ap (number_of c.args.lease) c.self.view_is
