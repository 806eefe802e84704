use Rattle.std.proofs.Common.{length}
use Rattle.ws_plain.proofs.pairs.+pairs.Given as goal

abbrev pub decreases-pairs : goal.decreases-pairs
decreases-pairs l = length l.events.now
