use Rattle.ws_tries.proofs.Pushes.{are_pushes}
use Rattle.ws_tries.proofs.laws.are_pushes.Goals as goal

pub returns : goal.returns
returns c = are_pushes
