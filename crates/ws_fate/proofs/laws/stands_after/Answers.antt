use Rattle.ws_fate.proofs.Stepping.{stands_after}
use Rattle.ws_fate.proofs.laws.stands_after.Goals as goal

pub returns : goal.returns
returns c = stands_after
