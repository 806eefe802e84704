use Rattle.ws_fate.proofs.Passing.{stands_later}
use Rattle.ws_fate.proofs.laws.stands_later.Goals as goal

pub returns : goal.returns
returns c = stands_later
