use Rattle.ws_compaction.proofs.Dropped.{drops_version}
use Rattle.ws_compaction.proofs.compaction.drops_version.Goals as goal

pub returns : goal.returns
returns c = drops_version
