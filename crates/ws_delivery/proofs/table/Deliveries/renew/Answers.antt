use Rattle.std.proofs.Common.{◌≡◌, ◌<◌, ℕ, ap, sym, ◌∙◌, subst}
use Rattle.std.specs.Prelude.{None, cond, ◌==◌, IfSome}
use Rattle.std.specs.Map.{keys_of}
use Rattle.std.specs.List.Sorted.{IsStrictlySortedBy}
use Rattle.ws_order.specs.declared.next_try.NextTry.{NextTry}
use Rattle.ws_delivery.specs.Table.{pair_order, pair_at, number_of, IsNextOpen}
use Rattle.ws_delivery.specs.Indexed.{is_end}
use Rattle.ws_delivery.proofs.RowsByKey.{ascends, same_rows, no_head, none_number}
use Rattle.ws_delivery.proofs.Counting.{total_is, number_of_lease}
use Rattle.ws_delivery.proofs.Carrying.{IsCarried, number_left, left_smaller, carried_back, head_first, old_stays, all_carried, none_carried}
use Rattle.ws_delivery.proofs.table.Deliveries.renew.Goals as goal

pub returns-in_default-clause-number : goal.returns-in_default-clause-number
returns-in_default-clause-number c = sym (ap (number_of c.args.old) (sym c.self.view_is) ∙ none_number c.args.old c.self.inside.pairs (sym c.first_of.ensures.first ∙ c.in_default.is))

pub returns-in_default-clause-look : goal.returns-in_default-clause-look
returns-in_default-clause-look c v n =
    none_carried c.args.exp c.args.t c.args.old c.args.new c.args.self.now c.requires.none
    (λ w. ap (pair_at w c.args.old) (sym c.self.view_is) ∙ no_head c.args.old c.self.inside.pairs (sym c.first_of.ensures.first ∙ c.in_default.is) w) v n

pub loop-next-init : goal.loop-next-init
loop-next-init c =
    head_first c.args.exp c.args.t c.args.old c.args.new c.args.self.now c.self.inside.pairs c.in-Some.first c.self.view_is c.first_of.ensures.ordered c.requires.none (sym c.first_of.ensures.first ∙ c.in-Some.is)

pub loop-next-smaller : goal.loop-next-smaller
loop-next-smaller c =
    let so_far = subst (IsCarried c.args.exp c.args.t c.args.old c.args.new c.args.self.now c.loop-next.self) c.in-Some-next.is c.loop-next.invariant in
    subst (λ z. number_left c.args.old c.args.self.now c.open_after-next.result < number_left c.args.old c.args.self.now z) (sym c.in-Some-next.is)
    (left_smaller c.args.old c.in-Some-next.ver c.args.self.now c.born.new.self c.open_after-next.result
    (old_stays c.args.exp c.args.t c.args.old c.args.new c.in-Some-next.ver c.args.self.now c.loop-next.self c.born.new.self c.requires.none so_far c.in-Ok.ensures.look) so_far.following
    (subst (λ z. IsNextOpen c.in-Some-next.ver c.args.old z c.open_after-next.result) c.self-in-Ok.view_is c.open_after-next.ensures))

pub returns-in-Err-clause-err : goal.returns-in-Err-clause-err
returns-in-Err-clause-err c =
    same_rows c.close_lease.new.self c.args.self.now (ascends c.close_lease.new.self c.close_lease.ensures.ordered) (ascends c.args.self.now (subst (λ z. IsStrictlySortedBy pair_order (keys_of z)) c.self.view_is c.first_of.ensures.ordered))
    (carried_back c.args.exp c.args.t c.args.old c.args.new c.args.self.now c.loop-next.self c.close_lease.new.self c.loop-next.next c.requires.none c.loop-next.invariant
    (λ v n. c.close_lease.ensures.look v n ∙ ap (λ z. cond (c.args.new == n) None (pair_at v n z)) c.in-Err.ensures.err))

pub returns-clause-look : goal.returns-clause-look
returns-clause-look c = all_carried c.args.exp c.args.t c.args.old c.args.new c.args.self.now c.loop-next.self (subst (IsCarried c.args.exp c.args.t c.args.old c.args.new c.args.self.now c.loop-next.self) c.in_default-next.is c.loop-next.invariant)

pub returns-clause-number : goal.returns-clause-number
returns-clause-number c =
    c.number_of-number.ensures
    ∙ sym (total_is c.in-Some.first.exp c.args.old c.self.inside.ends.entries c.self.invariant.are_counts.ordered)
    ∙ c.self.invariant.counts (is_end c.in-Some.first.exp c.args.old)
    ∙ number_of_lease c.in-Some.first.exp c.args.old c.self.inside.pairs c.first_of.ensures.ordered
    (subst (λ o. IfSome o (λ (x : NextTry). (v : ℕ) → IfSome (pair_at v c.args.old c.self.inside.pairs) (λ p. p.exp ≡ x.exp))) c.in-Some.is c.first_of.ensures.one_end)
    ∙ ap (number_of c.args.old) c.self.view_is
