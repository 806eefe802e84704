use Rattle.std.proofs.Common.{length}
use Rattle.ws_plain.proofs.moments.+version_number.Given as goal

abbrev pub decreases-version_number : goal.decreases-version_number
decreases-version_number l = length l.events.now
