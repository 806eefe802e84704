use Rattle.ws_core.specs.Follows.{HasHistory}
use Rattle.ws_core.proofs.tests.rooms_are_given_back.Given as goal

abbrev pub invariant-loop-step : goal.invariant-loop-step
invariant-loop-step g l = HasHistory l.core
