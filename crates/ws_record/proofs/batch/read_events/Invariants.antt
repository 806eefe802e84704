use Rattle.std.proofs.Common.{◌≡◌, ◌++◌, length}
use Rattle.std.specs.List.{flat_map, AllByRecursion}
use Rattle.ws_record.specs.Batch.{event_text, EventFits}
use Rattle.ws_record.proofs.batch.read_events.Given as goal

abbrev pub invariant-loop : goal.invariant-loop
invariant-loop l = record {
  count : length l.events.items ≡ l.counter;
  fit : AllByRecursion EventFits l.events.items;
  parts : l.bytes ≡ flat_map event_text l.events.items ++ l.rest;
}
