use Rattle.std.proofs.Common.{length}
use Rattle.ws_plain.proofs.leases.+intent_of.Given as goal

abbrev pub decreases-intent_of : goal.decreases-intent_of
decreases-intent_of l = length l.events.now
