use Rattle.std.proofs.Common.{◌≡◌, ◌<◌, ◌^◌, length, filter}
use Rattle.std.specs.Prelude.{nat_lt}
use Rattle.std.specs.List.Sorted.{IsStrictlySortedBy}
use Rattle.ws_lease.specs.Indexed.{end_order}
use Rattle.ws_lease.proofs.rows.count_after.Given as goal

abbrev pub invariant-loop-key : goal.invariant-loop-key
invariant-loop-key l =
    record {
      next : (goal.iterator-loop-key).can_next l.key-iterator;
      finite : (goal.iterator-loop-key).is_finite l.key-iterator;
      left : l.left ≡ length l.key-iterator;
      small : l.left < 2 ^ 63;
      sorted : IsStrictlySortedBy end_order l.key-iterator;
      after : length (filter (λ k. nat_lt l.t k.0) l.key-iterator) ≡ length (filter (λ k. nat_lt l.t k.0) l.by_end.keys);
    }
