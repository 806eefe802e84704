use Rattle.std.proofs.Common.{◌≡◌, true}
use Rattle.std.specs.Prelude.{nat_lt}
use Rattle.std.specs.Map.{keys_of}
use Rattle.std.specs.List.Sorted.{IsStrictlySortedBy}
use Rattle.ws_delivery.specs.Table.{pair_order}
use Rattle.ws_delivery.specs.Indexed.{total}
use Rattle.ws_delivery.proofs.ends.number_after.Given as goal

abbrev pub invariant-loop-key : goal.invariant-loop-key
invariant-loop-key l =
    record {
      next : (goal.iterator-loop-key).can_next l.key-iterator;
      finite : (goal.iterator-loop-key).is_finite l.key-iterator;
      left : l.left ≡ total (λ q. true) l.key-iterator;
      sorted : IsStrictlySortedBy pair_order (keys_of l.key-iterator);
      after : total (λ q. nat_lt l.t q.0) l.key-iterator ≡ total (λ q. nat_lt l.t q.0) l.ends.entries;
    }
