use Rattle.std.proofs.Common.{◌≡◌, ◌++◌, length, take}
use Rattle.std.specs.List.{flat_map, AllByRecursion}
use Rattle.std.specs.Int.{w32}
use Rattle.ws_record.specs.Text.{number_text}
use Rattle.ws_record.specs.Batch.{event_text, EventFits}
use Rattle.ws_record.proofs.batch.write_batch.Given as goal

abbrev pub invariant-loop-event : goal.invariant-loop-event
invariant-loop-event l = record {
  written : l.out.items ≡ number_text w32 (length l.events) ++ flat_map event_text (take l.event-index l.events);
  fit : AllByRecursion EventFits (take l.event-index l.events);
}
