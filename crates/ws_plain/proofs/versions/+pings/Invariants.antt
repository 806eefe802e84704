use Rattle.std.proofs.Common.{length}
use Rattle.ws_plain.proofs.versions.+pings.Given as goal

abbrev pub decreases-pings : goal.decreases-pings
decreases-pings l = length l.events.now
