use Rattle.ws_lease.proofs.Standing.{stands_on}
use Rattle.ws_lease.proofs.laws.stands_on.Goals as goal

pub returns : goal.returns
returns c = stands_on
