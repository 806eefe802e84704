use Rattle.std.proofs.Common.{length}
use Rattle.ws_plain.proofs.versions.+missed_fetches.Given as goal

abbrev pub decreases-missed_fetches : goal.decreases-missed_fetches
decreases-missed_fetches l = length l.events.now
