use Rattle.ws_compaction.proofs.DroppedEvents.{drops_event_later}
use Rattle.ws_compaction.proofs.compaction.drops_event_later.Goals as goal

pub returns : goal.returns
returns c = drops_event_later
