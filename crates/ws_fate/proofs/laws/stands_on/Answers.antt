use Rattle.ws_fate.proofs.Stepping.{stands_on}
use Rattle.ws_fate.proofs.laws.stands_on.Goals as goal

pub returns : goal.returns
returns c = stands_on
