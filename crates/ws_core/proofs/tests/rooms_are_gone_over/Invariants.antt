use Rattle.ws_core.specs.Follows.{HasHistory}
use Rattle.ws_core.proofs.tests.rooms_are_gone_over.Given as goal

abbrev pub invariant-loop-t : goal.invariant-loop-t
invariant-loop-t g l = HasHistory l.core
