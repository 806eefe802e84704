use Rattle.std.proofs.Common.{length}
use Rattle.ws_plain.proofs.sought.+has.Given as goal

abbrev pub decreases-has : goal.decreases-has
decreases-has l = length l.events.now
