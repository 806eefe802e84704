use Rattle.ws_compaction.proofs.Shortened.{any_compactions}
use Rattle.ws_compaction.proofs.compaction.any_compactions.Goals as goal

pub returns : goal.returns
returns c = any_compactions
