use Rattle.std.proofs.Common.{◌∙◌}
use Rattle.ws_topic.proofs.Keyed.{found_at}
use Rattle.ws_topic.proofs.by_topic.get.Goals as goal

pub returns : goal.returns
returns g c = c.get.ensures.value ∙ found_at c.args.topic.now c.args.map.now.entries
