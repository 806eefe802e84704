use Rattle.std.proofs.Common.{length}
use Rattle.ws_plain.proofs.moments.+serial.Given as goal

abbrev pub decreases-serial : goal.decreases-serial
decreases-serial l = length l.events.now
