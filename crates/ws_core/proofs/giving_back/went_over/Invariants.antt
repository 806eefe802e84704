use Rattle.std.proofs.Common.{◌-◌}
use Rattle.ws_model.specs.Legal.{number_limit}
use Rattle.ws_core.proofs.Walking.{WentOn}
use Rattle.ws_core.proofs.giving_back.went_over.Given as goal

abbrev pub invariant-loop-ver : goal.invariant-loop-ver
invariant-loop-ver l = WentOn l.lease l.from l.fates l.tries

abbrev pub decreases-loop-ver : goal.decreases-loop-ver
decreases-loop-ver l = number_limit - l.from
