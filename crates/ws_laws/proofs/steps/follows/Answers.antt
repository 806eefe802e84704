use Rattle.ws_laws.proofs.Follow.{follows}
use Rattle.ws_laws.proofs.steps.follows.Goals as goal

pub returns : goal.returns
returns c = follows
