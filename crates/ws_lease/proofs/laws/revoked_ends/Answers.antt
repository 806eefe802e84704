use Rattle.ws_lease.proofs.WhichEvents.{revoked_ends}
use Rattle.ws_lease.proofs.laws.revoked_ends.Goals as goal

pub returns : goal.returns
returns c = revoked_ends
