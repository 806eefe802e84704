use Rattle.ws_core.specs.Follows.{HasHistory}
use Rattle.check_core.proofs.applied.after.Given as goal

abbrev pub invariant-loop-event : goal.invariant-loop-event
invariant-loop-event l = HasHistory l.core
