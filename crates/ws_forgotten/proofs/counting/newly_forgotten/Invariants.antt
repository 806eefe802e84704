use Rattle.std.proofs.Common.{◌≡◌}
use Rattle.std.specs.Map.{keys_of}
use Rattle.std.specs.List.Sorted.{IsStrictlySortedBy}
use Rattle.ws_fate.specs.Rows.{pair_order}
use Rattle.ws_fate.specs.Totals.{none}
use Rattle.ws_forgotten.specs.Forgotten.{forgotten_ends, with_ends}
use Rattle.ws_forgotten.proofs.OneByOne.{AreWithin}
use Rattle.ws_forgotten.proofs.counting.newly_forgotten.Given as goal

abbrev pub invariant-loop-key : goal.invariant-loop-key
invariant-loop-key l =
    record {
      next : (goal.iterator-loop-key).can_next l.key-iterator;
      finite : (goal.iterator-loop-key).is_finite l.key-iterator;
      ordered : IsStrictlySortedBy pair_order (keys_of l.fates.pairs);
      within : AreWithin l.totals;
      so_far : with_ends l.totals (forgotten_ends l.kept l.key-iterator) ≡ with_ends none (forgotten_ends l.kept l.fates.pairs);
    }
