use Rattle.ws_core.specs.Follows.{HasHistory}
use Rattle.check_limits.proofs.leases.fill.Given as goal

abbrev pub invariant-loop-n : goal.invariant-loop-n
invariant-loop-n l = HasHistory l.core
