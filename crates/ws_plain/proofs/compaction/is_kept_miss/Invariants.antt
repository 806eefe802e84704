use Rattle.std.proofs.Common.{◌≡◌, drop}
use Rattle.ws_plain.specs.Kept.{is_miss_in}
use Rattle.ws_plain.proofs.compaction.is_kept_miss.Given as goal

-- none of those that were seen is one
abbrev pub invariant-loop-ping : goal.invariant-loop-ping
invariant-loop-ping l = is_miss_in (drop l.ping-index l.pings) l.event l.topic ≡ is_miss_in l.pings l.event l.topic
