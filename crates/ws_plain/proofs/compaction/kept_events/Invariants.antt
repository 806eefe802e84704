use Rattle.std.proofs.Common.{◌≡◌, ◌++◌, drop}
use Rattle.std.specs.Prelude.{filter}
use Rattle.ws_plain.specs.Kept.{keeps_by}
use Rattle.ws_plain.specs.Told.{told}
use Rattle.ws_plain.proofs.compaction.kept_events.Given as goal

-- the events so far and the kept ones of those left are those of all
abbrev pub invariant-loop-event : goal.invariant-loop-event
invariant-loop-event l =
    l.kept.items ++ filter (λ e. keeps_by (told l.findings) e e.what) (drop l.event-index l.events)
    ≡ filter (λ e. keeps_by (told l.findings) e e.what) l.events
