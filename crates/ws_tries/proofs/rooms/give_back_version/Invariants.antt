use Rattle.std.proofs.Common.{◌≡◌, ℕ, length}
use Rattle.std.specs.Prelude.{false, ◌==◌}
use Rattle.ws_tries.specs.Rows.{tries_at}
use Rattle.ws_tries.proofs.rooms.give_back_version.Given as goal

abbrev pub invariant-loop-lease : goal.invariant-loop-lease
invariant-loop-lease l = (v n : ℕ) → (l.ver == v) ≡ false → tries_at v n l.held ≡ tries_at v n l.fn.held

abbrev pub decreases-loop-lease : goal.decreases-loop-lease
decreases-loop-lease l = length l.held
