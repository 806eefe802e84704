use Rattle.ws_compaction.proofs.Dropped.{drops_version_later}
use Rattle.ws_compaction.proofs.compaction.drops_version_later.Goals as goal

pub returns : goal.returns
returns c = drops_version_later
