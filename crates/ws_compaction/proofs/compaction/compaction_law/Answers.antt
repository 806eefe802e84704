use Rattle.ws_compaction.proofs.Continued.{compaction_law}
use Rattle.ws_compaction.proofs.compaction.compaction_law.Goals as goal

pub returns : goal.returns
returns c = compaction_law
