use Rattle.ws_delivery.proofs.Standing.{stands_after}
use Rattle.ws_delivery.proofs.laws.stands_after.Goals as goal

pub returns : goal.returns
returns c = stands_after
