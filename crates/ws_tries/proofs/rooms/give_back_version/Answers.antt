use Rattle.ws_tries.proofs.Keyed.{version_gone}
use Rattle.ws_tries.proofs.rooms.give_back_version.Goals as goal

pub returns : goal.returns
returns c = record { look = λ v n. version_gone c.args.ver v n c.loop-lease.held c.args.held.now c.in_default.ensures.none c.loop-lease.invariant }
