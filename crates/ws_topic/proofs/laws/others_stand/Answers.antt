use Rattle.ws_topic.proofs.Changes.{others_stand}
use Rattle.ws_topic.proofs.laws.others_stand.Goals as goal

pub returns : goal.returns
returns c = others_stand
