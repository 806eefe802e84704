use Rattle.ws_lease.proofs.WhichEvents.{ended_is_live}
use Rattle.ws_lease.proofs.laws.ended_is_live.Goals as goal

pub returns : goal.returns
returns c = ended_is_live
