use Rattle.std.proofs.Common.{length}
use Rattle.ws_plain.proofs.found.+with_replaced.Given as goal

abbrev pub decreases-with_replaced : goal.decreases-with_replaced
decreases-with_replaced l = length l.events.now
