use Rattle.ws_delivery.proofs.Standing.{stands_later}
use Rattle.ws_delivery.proofs.laws.stands_later.Goals as goal

pub returns : goal.returns
returns c = stands_later
