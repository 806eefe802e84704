use Rattle.std.proofs.Common.{◌≡◌, ℕ, length}
use Rattle.std.specs.Prelude.{false, ◌==◌}
use Rattle.ws_tries.specs.Rows.{tries_at}
use Rattle.ws_tries.proofs.rooms.give_back_lease.Given as goal

abbrev pub invariant-loop-ver : goal.invariant-loop-ver
invariant-loop-ver l = (v n : ℕ) → (l.lease == n) ≡ false → tries_at v n l.held ≡ tries_at v n l.fn.held

abbrev pub decreases-loop-ver : goal.decreases-loop-ver
decreases-loop-ver l = length l.held
