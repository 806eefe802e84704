use Rattle.std.proofs.Common.{length}
use Rattle.ws_plain.proofs.versions.+is_latest_ping.Given as goal

abbrev pub decreases-is_latest_ping : goal.decreases-is_latest_ping
decreases-is_latest_ping l = length l.events.now
