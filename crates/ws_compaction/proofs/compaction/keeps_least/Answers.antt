use Rattle.ws_compaction.proofs.Least.{keeps_least}
use Rattle.ws_compaction.proofs.compaction.keeps_least.Goals as goal

pub returns : goal.returns
returns c = keeps_least
