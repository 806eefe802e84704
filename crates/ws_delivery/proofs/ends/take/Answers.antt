use Rattle.std.proofs.Common.{◌<◌, ◌-◌, sym, subst, arith}
use Rattle.std.specs.Prelude.{IfSome}
use Rattle.std.specs.Map.{lookup}
use Rattle.std.specs.BTreeMap.{is_at}
use Rattle.ws_delivery.specs.Table.{pair_order}
use Rattle.ws_delivery.proofs.Counting.{total_is, one_less, last_less, some_after, some_left}
use Rattle.ws_delivery.proofs.ends.take.Goals as goal

pub returns-in-Ok-clause-less : goal.returns-in-Ok-clause-less
returns-in-Ok-clause-less c g =
    let l = c.if-number-gt1.true in
    one_less g c.args.end c.args.lease c.number_of-number.result (c.number_of-number.result - 1) c.args.ends.now.entries c.insert.new.self.entries c.requires.counts.ordered c.number_of-number.ensures (omega arith) c.in-Ok.ensures.entries

pub returns-in-Ok-clause-counts : goal.returns-in-Ok-clause-counts
returns-in-Ok-clause-counts c =
    let l = c.if-number-gt1.true in
    record {
      ordered = c.insert.ensures.ordered;
      some = λ q.
          subst (λ o. IfSome o (λ k. 0 < k)) (sym (c.in-Ok.ensures.updates.0 q))
          (some_after (is_at (pair_order (c.args.end, c.args.lease)) q) (c.number_of-number.result - 1) (lookup (is_at (pair_order q)) c.args.ends.now.entries) (omega arith) (c.requires.counts.some q));
    }

pub returns-else-number-gt1-clause-less : goal.returns-else-number-gt1-clause-less
returns-else-number-gt1-clause-less c g =
    let l = c.if-number-gt1.false in
    let k = c.number_of-number.ensures in
    let e = total_is c.args.end c.args.lease c.args.ends.now.entries c.requires.counts.ordered in
    let m = c.requires.there in
    last_less g c.args.end c.args.lease c.number_of-number.result c.args.ends.now.entries c.remove.new.self.entries k (omega arith) c.remove.ensures.entries

pub returns-else-number-gt1-clause-counts : goal.returns-else-number-gt1-clause-counts
returns-else-number-gt1-clause-counts c =
    record {
      ordered = c.remove.ensures.ordered;
      some = λ q.
          subst (λ o. IfSome o (λ k. 0 < k)) (sym (c.remove.ensures.updates.0 q))
          (some_left (is_at (pair_order (c.args.end, c.args.lease)) q) (lookup (is_at (pair_order q)) c.args.ends.now.entries) (c.requires.counts.some q));
    }
