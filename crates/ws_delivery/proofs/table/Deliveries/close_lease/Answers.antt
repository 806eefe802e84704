use Rattle.std.proofs.Common.{◌≡◌, ap, sym, ◌∙◌, subst, arith, length}
use Rattle.std.specs.Prelude.{IsSome, None}
use Rattle.std.specs.Map.{keys_of}
use Rattle.std.specs.List.Sorted.{IsStrictlySortedBy}
use Rattle.ws_delivery.specs.Table.{pair_order, pair_at, number_of}
use Rattle.ws_delivery.proofs.RowsByKey.{head_open, no_head, none_number, closed_look}
use Rattle.ws_delivery.proofs.table.Deliveries.close_lease.Goals as goal

pub close-requires : goal.close-requires
close-requires c =
    record {
      is_open = subst (λ z. IsSome (pair_at c.in-Some.first.ver c.args.lease z)) c.self-in-loop-first.view_is (head_open c.args.lease c.self-in-loop-first.inside.pairs c.in-Some.first c.first_of.ensures.ordered (sym c.first_of.ensures.first ∙ c.in-Some.is));
    }

pub overflow_sub-result : goal.overflow_sub-result
overflow_sub-result c =
    let zero : number_of c.args.lease c.loop-first.self ≡ 0 = ap (number_of c.args.lease) (sym c.self-in-loop-first.view_is) ∙ none_number c.args.lease c.self-in-loop-first.inside.pairs (sym c.first_of.ensures.first ∙ c.in_default.is) in
    let here : c.len.result ≡ length c.loop-first.self = c.len.ensures.len ∙ ap length c.self-2.view_is in
    let there : c.len-before.result ≡ length c.args.self.now = c.len-before.ensures.len ∙ ap length c.self.view_is in
    let counted = c.loop-first.invariant.counted in
    omega arith

pub returns-clause-number : goal.returns-clause-number
returns-clause-number c =
    let zero : number_of c.args.lease c.loop-first.self ≡ 0 = ap (number_of c.args.lease) (sym c.self-in-loop-first.view_is) ∙ none_number c.args.lease c.self-in-loop-first.inside.pairs (sym c.first_of.ensures.first ∙ c.in_default.is) in
    let here : c.len.result ≡ length c.loop-first.self = c.len.ensures.len ∙ ap length c.self-2.view_is in
    let there : c.len-before.result ≡ length c.args.self.now = c.len-before.ensures.len ∙ ap length c.self.view_is in
    let counted = c.loop-first.invariant.counted in
    omega arith

pub returns-clause-look : goal.returns-clause-look
returns-clause-look c v n =
    closed_look c.args.lease v n c.loop-first.self c.args.self.now
    (λ w. subst (λ z. pair_at w c.args.lease z ≡ None) c.self-in-loop-first.view_is (no_head c.args.lease c.self-in-loop-first.inside.pairs (sym c.first_of.ensures.first ∙ c.in_default.is) w))
    c.loop-first.invariant.others

pub returns-clause-ordered : goal.returns-clause-ordered
returns-clause-ordered c = subst (λ z. IsStrictlySortedBy pair_order (keys_of z)) c.self-in-loop-first.view_is c.first_of.ensures.ordered
