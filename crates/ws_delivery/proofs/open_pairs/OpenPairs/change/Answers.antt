use Rattle.std.proofs.Common.{◌≡◌, ap, sym, ◌∙◌, subst}
use Rattle.std.specs.Prelude.{Some, IfSome, IsSomeAnd, cond, not, ◌&&◌, ◌||◌}
use Rattle.ws_order.specs.NextTries.{has, same}
use Rattle.ws_delivery.specs.Table.{pair_at, is_here}
use Rattle.ws_delivery.specs.Indexed.{is_it}
use Rattle.ws_delivery.proofs.RowsByKey.{looks_by_key, no_pair}
use Rattle.ws_delivery.proofs.FirstPairs.{fits_same, indexed_after, headed_after, head_is_new, head_is_there, head_leases}
use Rattle.ws_delivery.proofs.open_pairs.OpenPairs.change.Goals as goal

pub unreachable-requires : goal.unreachable-requires
unreachable-requires c = no_pair (λ p. p.exp ≡ c.args.pair.exp) c.args.lease c.args.ver c.self.inside.pairs.entries (sym c.head_of.ensures ∙ c.in_default.is) (subst (λ z. IsSomeAnd (pair_at c.args.ver c.args.lease z) (λ p. p.exp ≡ c.args.pair.exp)) (sym c.self.view_is) c.requires.is_open)

pub follow-requires-clause-there : goal.follow-requires-clause-there
follow-requires-clause-there c = head_is_there c.self.inside.pairs.entries c.self.inside.heads c.args.lease c.in-Some.before c.self.invariant (sym c.head_of.ensures ∙ c.in-Some.is)

pub follow-requires-clause-new : goal.follow-requires-clause-new
follow-requires-clause-new c =
    head_is_new c.self.inside.pairs.entries c.self.inside.heads c.args.lease c.in-Some.before c.head_of-after.result c.self.invariant (sym c.head_of.ensures ∙ c.in-Some.is)
    (subst (λ o. IfSome o (λ y. y.lease ≡ c.args.lease)) (sym c.head_of-after.ensures) (head_leases c.args.lease c.insert.new.self.entries c.insert.ensures.ordered))

pub invariant_of-self : goal.invariant_of-self
invariant_of-self c =
    let look = looks_by_key c.self.inside.pairs.entries c.insert.new.self.entries c.args.ver c.args.lease (Some c.args.pair) c.in-Ok.ensures.updates.0 in
    let fits = fits_same c.self.inside.pairs.entries c.self.inside.heads c.args.ver c.args.lease c.args.pair c.self.invariant (subst (λ z. IsSomeAnd (pair_at c.args.ver c.args.lease z) (λ p. p.exp ≡ c.args.pair.exp)) (sym c.self.view_is) c.requires.is_open) c.requires.few in
    indexed_after c.self.inside.pairs.entries c.insert.new.self.entries c.self.inside.heads c.follow.new.heads c.args.ver c.args.lease (Some c.args.pair) c.self.invariant c.insert.ensures.ordered look fits
    (headed_after c.self.inside.pairs.entries c.insert.new.self.entries c.self.inside.heads c.follow.new.heads c.args.ver c.args.lease (Some c.args.pair) c.in-Some.before c.self.invariant c.insert.ensures.ordered look (sym c.head_of.ensures ∙ c.in-Some.is)
    (λ y. c.follow.ensures y ∙ ap (λ o. is_it y o || (has y c.self.inside.heads && not (same c.in-Some.before y))) c.head_of-after.ensures))

pub returns-clause-look : goal.returns-clause-look
returns-clause-look c v n =
    looks_by_key c.self.inside.pairs.entries c.insert.new.self.entries c.args.ver c.args.lease (Some c.args.pair) c.in-Ok.ensures.updates.0 v n ∙ ap (λ z. cond (is_here c.args.ver c.args.lease v n) (Some c.args.pair) (pair_at v n z)) c.self.view_is
