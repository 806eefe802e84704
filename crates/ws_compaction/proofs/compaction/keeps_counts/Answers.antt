use Rattle.ws_compaction.proofs.Pairs.{keeps_counts}
use Rattle.ws_compaction.proofs.compaction.keeps_counts.Goals as goal

pub returns : goal.returns
returns c = keeps_counts
