use Rattle.ws_tries.proofs.Tried.{at_most_eight}
use Rattle.ws_tries.proofs.laws.at_most_eight.Goals as goal

pub returns : goal.returns
returns c = at_most_eight
