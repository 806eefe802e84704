use Rattle.ws_lease.proofs.WhichEvents.{unsubscription_leaves}
use Rattle.ws_lease.proofs.laws.unsubscription_leaves.Goals as goal

pub returns : goal.returns
returns c = unsubscription_leaves
