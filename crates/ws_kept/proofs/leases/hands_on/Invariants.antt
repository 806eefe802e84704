use Rattle.std.proofs.Common.{◌-◌}
use Rattle.std.specs.BTreeSet.{contains}
use Rattle.std.specs.Ordering.{nat_cmp}
use Rattle.ws_model.specs.Legal.{number_limit}
use Rattle.ws_kept.proofs.Rooms.{WentOn}
use Rattle.ws_kept.proofs.leases.hands_on.Given as goal

abbrev pub invariant-loop-ver : goal.invariant-loop-ver
invariant-loop-ver l = WentOn (contains nat_cmp l.versions) l.lease l.from l.fates l.tries

abbrev pub decreases-loop-ver : goal.decreases-loop-ver
decreases-loop-ver l = number_limit - l.from
