use Rattle.std.proofs.Common.{◌≡◌, ◌++◌}
use Rattle.ws_tried.proofs.Made.{has_both, pushes_of}
use Rattle.ws_tried.proofs.pushes.kept_pushes.Given as goal

abbrev pub invariant-loop-pair : goal.invariant-loop-pair
invariant-loop-pair l =
    record {
      next : (goal.iterator-loop-pair).can_next l.pair-iterator;
      finite : (goal.iterator-loop-pair).is_finite l.pair-iterator;
      so_far : l.events.items ++ pushes_of (has_both l.kept) l.pair-iterator ≡ pushes_of (has_both l.kept) l.tries;
    }
