use Rattle.ws_delivery.proofs.Standing.{stands_empty}
use Rattle.ws_delivery.proofs.laws.stands_empty.Goals as goal

pub returns : goal.returns
returns c = stands_empty
