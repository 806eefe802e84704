use Rattle.ws_intent.proofs.Standing.{others_stand}
use Rattle.ws_intent.proofs.laws.others_stand.Goals as goal

pub returns : goal.returns
returns c = others_stand
