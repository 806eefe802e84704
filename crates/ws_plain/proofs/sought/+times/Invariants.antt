use Rattle.std.proofs.Common.{length}
use Rattle.ws_plain.proofs.sought.+times.Given as goal

abbrev pub decreases-times : goal.decreases-times
decreases-times l = length l.events.now
