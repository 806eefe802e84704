use Rattle.std.proofs.Common.{◌+◌, ◌<◌, sym, subst, arith}
use Rattle.std.specs.Prelude.{IfSome}
use Rattle.std.specs.Map.{lookup}
use Rattle.std.specs.BTreeMap.{is_at}
use Rattle.ws_delivery.specs.Table.{pair_order}
use Rattle.ws_delivery.proofs.Counting.{total_is, one_more, some_after}
use Rattle.ws_delivery.proofs.ends.add.Goals as goal

pub overflow_add-number : goal.overflow_add-number
overflow_add-number c =
    let k = c.number_of-number.ensures in
    let e = total_is c.args.end c.args.lease c.args.ends.now.entries c.requires.counts.ordered in
    let l = c.requires.few in
    omega arith

pub returns-clause-more : goal.returns-clause-more
returns-clause-more c g = one_more g c.args.end c.args.lease c.number_of-number.result c.args.ends.now.entries c.insert.new.self.entries c.requires.counts.ordered c.number_of-number.ensures c.in_ok-insert.ensures.entries

pub returns-clause-counts : goal.returns-clause-counts
returns-clause-counts c =
    record {
      ordered = c.insert.ensures.ordered;
      some = λ q.
          subst (λ o. IfSome o (λ k. 0 < k)) (sym (c.in_ok-insert.ensures.updates.0 q))
          (some_after (is_at (pair_order (c.args.end, c.args.lease)) q) (c.number_of-number.result + 1) (lookup (is_at (pair_order q)) c.args.ends.now.entries) (omega arith) (c.requires.counts.some q));
    }
