use Rattle.std.proofs.Common.{length}
use Rattle.ws_plain.proofs.sought.+newest_time.Given as goal

abbrev pub decreases-newest_time : goal.decreases-newest_time
decreases-newest_time l = length l.events.now
