use Rattle.ws_tries.proofs.Roomed.{lease_gone}
use Rattle.ws_tries.proofs.rooms.give_back_lease.Goals as goal

pub returns : goal.returns
returns c = record { look = λ v n. lease_gone c.args.lease v n c.loop-ver.held c.args.held.now c.in_default.ensures.none c.loop-ver.invariant }
