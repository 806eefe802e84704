use Rattle.ws_delivery.proofs.Standing.{stands_on}
use Rattle.ws_delivery.proofs.laws.stands_on.Goals as goal

pub returns : goal.returns
returns c = stands_on
