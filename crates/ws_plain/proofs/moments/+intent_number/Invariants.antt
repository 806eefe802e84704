use Rattle.std.proofs.Common.{length}
use Rattle.ws_plain.proofs.moments.+intent_number.Given as goal

abbrev pub decreases-intent_number : goal.decreases-intent_number
decreases-intent_number l = length l.events.now
