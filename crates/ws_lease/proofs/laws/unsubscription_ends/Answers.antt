use Rattle.ws_lease.proofs.WhichEvents.{unsubscription_ends}
use Rattle.ws_lease.proofs.laws.unsubscription_ends.Goals as goal

pub returns : goal.returns
returns c = unsubscription_ends
