use Rattle.ws_lease.proofs.WhichEvents.{gone_ends}
use Rattle.ws_lease.proofs.laws.gone_ends.Goals as goal

pub returns : goal.returns
returns c = gone_ends
