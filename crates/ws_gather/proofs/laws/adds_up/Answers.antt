use Rattle.ws_gather.proofs.Members.{adds_up}
use Rattle.ws_gather.proofs.laws.adds_up.Goals as goal

pub returns : goal.returns
returns c = adds_up
