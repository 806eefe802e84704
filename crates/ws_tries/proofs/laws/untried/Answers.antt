use Rattle.ws_tries.proofs.Tried.{untried}
use Rattle.ws_tries.proofs.laws.untried.Goals as goal

pub returns : goal.returns
returns c = untried
