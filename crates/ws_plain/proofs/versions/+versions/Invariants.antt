use Rattle.std.proofs.Common.{length}
use Rattle.ws_plain.proofs.versions.+versions.Given as goal

abbrev pub decreases-versions : goal.decreases-versions
decreases-versions l = length l.events.now
