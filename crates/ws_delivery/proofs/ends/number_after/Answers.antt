use Rattle.std.proofs.Common.{true, ap, sym, ◌∙◌, subst, arith}
use Rattle.std.specs.Prelude.{nat_lt}
use Rattle.std.specs.Map.{keys_of}
use Rattle.std.specs.List.Sorted.{IsStrictlySortedBy}
use Rattle.ws_delivery.specs.Table.{pair_order}
use Rattle.ws_delivery.specs.Indexed.{total}
use Rattle.ws_delivery.proofs.Counting.{all_after, skipped, sorted_tail}
use Rattle.ws_delivery.proofs.ends.number_after.Goals as goal

pub returns-then-t-key : goal.returns-then-t-key
returns-then-t-key c =
    let e = c.in-Some.ensures.steps in
    c.loop-key.invariant.left ∙ ap (total (λ q. true)) e
    ∙ all_after c.args.t (c.in-Some.key.now, c.in-Some.number.now) c.next.new.self (subst (λ z. IsStrictlySortedBy pair_order (keys_of z)) e c.loop-key.invariant.sorted) c.if-t-key.true
    ∙ ap (total (λ q. nat_lt c.args.t q.0)) (sym e)
    ∙ c.loop-key.invariant.after

pub overflow_sub-left : goal.overflow_sub-left
overflow_sub-left c =
    let l = c.loop-key.invariant.left ∙ ap (total (λ q. true)) c.in-Some.ensures.steps in
    omega arith

pub loop-key-preserved : goal.loop-key-preserved
loop-key-preserved c =
    let e = c.in-Some.ensures.steps in
    record {
      next = tt;
      finite = tt;
      left = let l = c.loop-key.invariant.left ∙ ap (total (λ q. true)) e in omega arith;
      sorted = sorted_tail (c.in-Some.key.now, c.in-Some.number.now) c.next.new.self (subst (λ z. IsStrictlySortedBy pair_order (keys_of z)) e c.loop-key.invariant.sorted);
      after = skipped c.args.t (c.in-Some.key.now, c.in-Some.number.now) c.next.new.self c.if-t-key.false ∙ ap (total (λ q. nat_lt c.args.t q.0)) (sym e) ∙ c.loop-key.invariant.after;
    }
