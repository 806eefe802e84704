use Rattle.ws_core.specs.Follows.{HasHistory}
use Rattle.check_core.proofs.generated.stands_beside.Given as goal

abbrev pub invariant-loop-at : goal.invariant-loop-at
invariant-loop-at l = HasHistory l.core
