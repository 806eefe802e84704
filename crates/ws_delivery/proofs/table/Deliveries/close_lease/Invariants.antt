use Rattle.std.proofs.Common.{◌≡◌, ℕ, ◌+◌, length}
use Rattle.std.specs.Prelude.{false, ◌==◌}
use Rattle.ws_delivery.specs.Table.{pair_at, number_of}
use Rattle.ws_delivery.proofs.table.Deliveries.close_lease.Given as goal

abbrev pub invariant-loop-first : goal.invariant-loop-first
invariant-loop-first l =
    record {
      counted : length l.self + number_of l.lease l.fn.self ≡ length l.fn.self + number_of l.lease l.self;
      others : (v n : ℕ) → (l.lease == n) ≡ false → pair_at v n l.self ≡ pair_at v n l.fn.self;
    }

abbrev pub decreases-loop-first : goal.decreases-loop-first
decreases-loop-first l = number_of l.lease l.self
