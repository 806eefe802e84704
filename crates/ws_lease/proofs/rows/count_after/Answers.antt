use Rattle.std.proofs.Common.{ap, sym, ◌∙◌, subst, length, filter, arith}
use Rattle.std.specs.Prelude.{nat_lt}
use Rattle.std.specs.List.Sorted.{IsStrictlySortedBy}
use Rattle.ws_lease.specs.Indexed.{end_order}
use Rattle.ws_lease.proofs.Count.{all_after, sorted_rest, skipped}
use Rattle.ws_lease.proofs.rows.count_after.Goals as goal

pub returns-then-t-key-clause-count : goal.returns-then-t-key-clause-count
returns-then-t-key-clause-count c =
    let e = c.in-Some.ensures.steps in
    c.loop-key.invariant.left
    ∙ ap length (e ∙ sym (all_after c.args.t c.in-Some.key.now c.next.new.self (subst (IsStrictlySortedBy end_order) e c.loop-key.invariant.sorted) c.if-t-key.true) ∙ ap (filter (λ k. nat_lt c.args.t k.0)) (sym e))
    ∙ c.loop-key.invariant.after

pub loop-key-preserved : goal.loop-key-preserved
loop-key-preserved c =
    let e = c.in-Some.ensures.steps in
    record {
      next = tt;
      finite = tt;
      left = let l = c.loop-key.invariant.left ∙ ap length e in omega arith;
      small = let s = c.loop-key.invariant.small in omega arith;
      sorted = sorted_rest c.in-Some.key.now c.next.new.self (subst (IsStrictlySortedBy end_order) e c.loop-key.invariant.sorted);
      after = ap length (sym (skipped c.args.t c.in-Some.key.now c.next.new.self c.if-t-key.false) ∙ ap (filter (λ k. nat_lt c.args.t k.0)) (sym e)) ∙ c.loop-key.invariant.after;
    }
