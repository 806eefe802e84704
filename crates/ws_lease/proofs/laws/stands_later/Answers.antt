use Rattle.ws_lease.proofs.Standing.{stands_later}
use Rattle.ws_lease.proofs.laws.stands_later.Goals as goal

pub returns : goal.returns
returns c = stands_later
