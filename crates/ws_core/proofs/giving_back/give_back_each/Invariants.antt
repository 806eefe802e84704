use Rattle.std.proofs.Common.{◌-◌}
use Rattle.ws_model.specs.Legal.{number_limit}
use Rattle.ws_core.proofs.Walking.{WentBack}
use Rattle.ws_core.proofs.giving_back.give_back_each.Given as goal

abbrev pub invariant-loop-ver : goal.invariant-loop-ver
invariant-loop-ver l = WentBack l.lease l.from l.ledger l.fn.tries l.tries

abbrev pub decreases-loop-ver : goal.decreases-loop-ver
decreases-loop-ver l = number_limit - l.from
