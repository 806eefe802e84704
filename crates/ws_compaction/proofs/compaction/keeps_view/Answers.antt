use Rattle.ws_compaction.proofs.Whole.{keeps_view}
use Rattle.ws_compaction.proofs.compaction.keeps_view.Goals as goal

pub returns : goal.returns
returns c = keeps_view
