use Rattle.ws_tries.proofs.Tried.{has_place}
use Rattle.ws_tries.proofs.laws.has_place.Goals as goal

pub returns : goal.returns
returns c = has_place
