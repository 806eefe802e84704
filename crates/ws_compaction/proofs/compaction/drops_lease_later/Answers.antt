use Rattle.ws_compaction.proofs.Dropped.{drops_lease_later}
use Rattle.ws_compaction.proofs.compaction.drops_lease_later.Goals as goal

pub returns : goal.returns
returns c = drops_lease_later
