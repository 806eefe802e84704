use Rattle.std.proofs.Common.{◌≡◌}
use Rattle.ws_lease.specs.Unexpired.{unexpired_numbers}
use Rattle.ws_lease.proofs.live_of.next_unexpired.Given as goal

abbrev pub invariant-loop-n : goal.invariant-loop-n
invariant-loop-n l =
    record {
      next : (goal.iterator-loop-n).can_next l.left;
      finite : (goal.iterator-loop-n).is_finite l.left;
      rest : unexpired_numbers l.t l.initial.left ≡ unexpired_numbers l.t l.left;
    }
