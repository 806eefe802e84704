use Rattle.std.proofs.Common.{length}
use Rattle.ws_plain.proofs.intents.+asked.Given as goal

abbrev pub decreases-asked : goal.decreases-asked
decreases-asked l = length l.events.now
