use Rattle.std.proofs.Common.{◌≡◌, ◌<◌, ◌+◌, ℕ, ap, sym, ◌∙◌, subst, arith}
use Rattle.std.specs.Prelude.{Some, IfSome, cond, ◌==◌, not, ◌&&◌, ◌||◌}
use Rattle.ws_model.specs.Due.{place}
use Rattle.ws_order.specs.NextTries.{before, has, same}
use Rattle.ws_delivery.specs.Table.{pair_at, is_here, is_of_lease, fresh, number_of}
use Rattle.ws_delivery.specs.Indexed.{try_of, is_it}
use Rattle.ws_delivery.proofs.RowsByKey.{looks_by_key, inserted_count}
use Rattle.ws_delivery.proofs.FirstPairs.{indexed_after, headed_after, head_is_new, head_is_there, head_leases, headed_first}
use Rattle.ws_delivery.proofs.open_pairs.OpenPairs.open.Goals as goal

small : 0 < 8
small = omega arith

pub follow-requires-clause-there : goal.follow-requires-clause-there
follow-requires-clause-there c = head_is_there c.self.inside.pairs.entries c.self.inside.heads c.args.lease c.in-Some.before c.self.invariant (sym c.head_of.ensures ∙ c.in-Some.is)

pub follow-requires-clause-new : goal.follow-requires-clause-new
follow-requires-clause-new c =
    head_is_new c.self.inside.pairs.entries c.self.inside.heads c.args.lease c.in-Some.before c.head_of-after.result c.self.invariant (sym c.head_of.ensures ∙ c.in-Some.is)
    (subst (λ o. IfSome o (λ y. y.lease ≡ c.args.lease)) (sym c.head_of-after.ensures) (head_leases c.args.lease c.insert.new.self.entries c.insert.ensures.ordered))

pub invariant_of-self-in-Some : goal.invariant_of-self-in-Some
invariant_of-self-in-Some c =
    let look : (v n : ℕ) → pair_at v n c.insert.new.self.entries ≡ cond (is_here c.args.ver c.args.lease v n) (Some (fresh c.args.exp c.args.t)) (pair_at v n c.self.inside.pairs.entries) = λ v n. looks_by_key c.self.inside.pairs.entries c.insert.new.self.entries c.args.ver c.args.lease (Some c.fresh-pair.result) c.in_ok-insert-in-Some.ensures.updates.0 v n ∙ ap (λ z. cond (is_here c.args.ver c.args.lease v n) (Some z) (pair_at v n c.self.inside.pairs.entries)) c.fresh-pair.ensures in
    indexed_after c.self.inside.pairs.entries c.insert.new.self.entries c.self.inside.heads c.follow.new.heads c.args.ver c.args.lease (Some (fresh c.args.exp c.args.t)) c.self.invariant c.insert.ensures.ordered look (small, λ v. subst (λ z. IfSome (pair_at v c.args.lease z) (λ q. q.exp ≡ c.args.exp)) (sym c.self.view_is) (c.requires.one_end v))
    (headed_after c.self.inside.pairs.entries c.insert.new.self.entries c.self.inside.heads c.follow.new.heads c.args.ver c.args.lease (Some (fresh c.args.exp c.args.t)) c.in-Some.before c.self.invariant c.insert.ensures.ordered look (sym c.head_of.ensures ∙ c.in-Some.is)
    (λ y. c.follow.ensures y ∙ ap (λ o. is_it y o || (has y c.self.inside.heads && not (same c.in-Some.before y))) c.head_of-after.ensures))

pub invariant_of-self-in-None : goal.invariant_of-self-in-None
invariant_of-self-in-None c =
    let look : (v n : ℕ) → pair_at v n c.insert-in-None.new.self.entries ≡ cond (is_here c.args.ver c.args.lease v n) (Some (fresh c.args.exp c.args.t)) (pair_at v n c.self.inside.pairs.entries) = λ v n. looks_by_key c.self.inside.pairs.entries c.insert-in-None.new.self.entries c.args.ver c.args.lease (Some c.fresh-pair.result) c.in_ok-insert-in-None.ensures.updates.0 v n ∙ ap (λ z. cond (is_here c.args.ver c.args.lease v n) (Some z) (pair_at v n c.self.inside.pairs.entries)) c.fresh-pair.ensures in
    let new : c.put.new.self ≡ place before (try_of ((c.args.lease, c.args.ver), fresh c.args.exp c.args.t)) c.self.inside.heads = c.put.ensures ∙ ap (λ z. place before z c.self.inside.heads) (c.try_of.ensures ∙ ap (λ z. try_of ((c.args.lease, c.args.ver), z)) c.fresh-pair.ensures) in
    indexed_after c.self.inside.pairs.entries c.insert-in-None.new.self.entries c.self.inside.heads c.put.new.self c.args.ver c.args.lease (Some (fresh c.args.exp c.args.t)) c.self.invariant c.insert-in-None.ensures.ordered look (small, λ v. subst (λ z. IfSome (pair_at v c.args.lease z) (λ q. q.exp ≡ c.args.exp)) (sym c.self.view_is) (c.requires.one_end v))
    (λ y. ap (has y) new ∙ headed_first c.self.inside.pairs.entries c.insert-in-None.new.self.entries c.self.inside.heads c.args.ver c.args.lease (fresh c.args.exp c.args.t) c.self.invariant c.insert-in-None.ensures.ordered look (sym c.head_of.ensures ∙ c.in-None.is) y)

pub returns-in_ok-insert-in-Some-clause-look : goal.returns-in_ok-insert-in-Some-clause-look
returns-in_ok-insert-in-Some-clause-look c v n =
    let look : (v n : ℕ) → pair_at v n c.insert.new.self.entries ≡ cond (is_here c.args.ver c.args.lease v n) (Some (fresh c.args.exp c.args.t)) (pair_at v n c.self.inside.pairs.entries) = λ v n. looks_by_key c.self.inside.pairs.entries c.insert.new.self.entries c.args.ver c.args.lease (Some c.fresh-pair.result) c.in_ok-insert-in-Some.ensures.updates.0 v n ∙ ap (λ z. cond (is_here c.args.ver c.args.lease v n) (Some z) (pair_at v n c.self.inside.pairs.entries)) c.fresh-pair.ensures in
    look v n ∙ ap (λ z. cond (is_here c.args.ver c.args.lease v n) (Some (fresh c.args.exp c.args.t)) (pair_at v n z)) c.self.view_is

pub returns-in_ok-insert-in-None-clause-look : goal.returns-in_ok-insert-in-None-clause-look
returns-in_ok-insert-in-None-clause-look c v n =
    let look : (v n : ℕ) → pair_at v n c.insert-in-None.new.self.entries ≡ cond (is_here c.args.ver c.args.lease v n) (Some (fresh c.args.exp c.args.t)) (pair_at v n c.self.inside.pairs.entries) = λ v n. looks_by_key c.self.inside.pairs.entries c.insert-in-None.new.self.entries c.args.ver c.args.lease (Some c.fresh-pair.result) c.in_ok-insert-in-None.ensures.updates.0 v n ∙ ap (λ z. cond (is_here c.args.ver c.args.lease v n) (Some z) (pair_at v n c.self.inside.pairs.entries)) c.fresh-pair.ensures in
    look v n ∙ ap (λ z. cond (is_here c.args.ver c.args.lease v n) (Some (fresh c.args.exp c.args.t)) (pair_at v n z)) c.self.view_is

pub returns-in_ok-insert-in-Some-clause-number : goal.returns-in_ok-insert-in-Some-clause-number
returns-in_ok-insert-in-Some-clause-number c n =
    ap (number_of n) c.in_ok-insert-in-Some.ensures.entries
    ∙ inserted_count (is_of_lease n) c.args.ver c.args.lease c.fresh-pair.result c.self.inside.pairs.entries (ap (pair_at c.args.ver c.args.lease) c.self.view_is ∙ c.requires.new)
    ∙ ap (λ z. number_of n z + cond (c.args.lease == n) 1 0) c.self.view_is

pub returns-in_ok-insert-in-None-clause-number : goal.returns-in_ok-insert-in-None-clause-number
returns-in_ok-insert-in-None-clause-number c n =
    ap (number_of n) c.in_ok-insert-in-None.ensures.entries
    ∙ inserted_count (is_of_lease n) c.args.ver c.args.lease c.fresh-pair.result c.self.inside.pairs.entries (ap (pair_at c.args.ver c.args.lease) c.self.view_is ∙ c.requires.new)
    ∙ ap (λ z. number_of n z + cond (c.args.lease == n) 1 0) c.self.view_is
