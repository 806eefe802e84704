use Rattle.ws_compaction.proofs.Pairs.{keeps_pairs}
use Rattle.ws_compaction.proofs.compaction.keeps_pairs.Goals as goal

pub returns : goal.returns
returns c = keeps_pairs
