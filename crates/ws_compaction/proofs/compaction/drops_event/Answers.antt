use Rattle.ws_compaction.proofs.DroppedEvents.{drops_event}
use Rattle.ws_compaction.proofs.compaction.drops_event.Goals as goal

pub returns : goal.returns
returns c = drops_event
