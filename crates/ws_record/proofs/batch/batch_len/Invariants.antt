use Rattle.std.proofs.Common.{◌≡◌, ◌+◌, length, take}
use Rattle.std.specs.List.{flat_map}
use Rattle.ws_record.specs.Text.{capped}
use Rattle.ws_record.specs.Batch.{event_text}
use Rattle.ws_record.proofs.batch.batch_len.Given as goal

abbrev pub invariant-loop-event : goal.invariant-loop-event
invariant-loop-event l = l.sum ≡ capped (4 + length (flat_map event_text (take l.event-index l.events)))
