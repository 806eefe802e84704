use Rattle.std.proofs.Common.{◌≡◌, drop}
use Rattle.ws_plain.specs.Kept.{is_ping_in}
use Rattle.ws_plain.proofs.compaction.is_kept_ping.Given as goal

-- none of those that were seen is one
abbrev pub invariant-loop-ping : goal.invariant-loop-ping
invariant-loop-ping l = is_ping_in (drop l.ping-index l.pings) l.event l.topic ≡ is_ping_in l.pings l.event l.topic
