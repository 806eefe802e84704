use Rattle.ws_compaction.proofs.Continued.{keeps_again}
use Rattle.ws_compaction.proofs.compaction.keeps_again.Goals as goal

pub returns : goal.returns
returns c = keeps_again
