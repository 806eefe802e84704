use Rattle.std.proofs.Common.{length}
use Rattle.ws_plain.proofs.moments.+tally_in.Given as goal

abbrev pub decreases-tally_in : goal.decreases-tally_in
decreases-tally_in l = length l.events.now
