use Rattle.ws_compaction.proofs.Dropped.{drops_lease}
use Rattle.ws_compaction.proofs.compaction.drops_lease.Goals as goal

pub returns : goal.returns
returns c = drops_lease
