use Rattle.std.proofs.Common.{length}
use Rattle.ws_core.proofs.Expiring.{SoFar}
use Rattle.ws_core.proofs.passing.let_go.Given as goal

abbrev pub invariant-loop-lease : goal.invariant-loop-lease
invariant-loop-lease l = SoFar l.t l.fn.ledger l.fn.tries l.ledger l.tries

abbrev pub decreases-loop-lease : goal.decreases-loop-lease
decreases-loop-lease l = length l.ledger.tables.leases
