use Rattle.std.proofs.Common.{◌≡◌}
use Rattle.ws_journal.proofs.scan.listed.Given as goal

abbrev pub invariant-loop-event : goal.invariant-loop-event
invariant-loop-event l = l.events ≡ l.yielded
