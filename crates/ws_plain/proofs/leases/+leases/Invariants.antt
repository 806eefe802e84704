use Rattle.std.proofs.Common.{length}
use Rattle.ws_plain.proofs.leases.+leases.Given as goal

abbrev pub decreases-leases : goal.decreases-leases
decreases-leases l = length l.events.now
