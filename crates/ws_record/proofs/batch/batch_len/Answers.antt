use Rattle.std.proofs.Common.{◌≡◌, ◌+◌, length, take, ap, sym, ◌∙◌}
use Rattle.std.specs.List.{flat_map}
use Rattle.std.proofs.lemmas.List.{take_all}
use Rattle.ws_record.specs.Text.{capped}
use Rattle.ws_record.specs.Batch.{event_text}
use Rattle.ws_record.proofs.Events.{length-batch_text}
use Rattle.ws_record.proofs.batch.batch_len.Goals as goal

pub returns : goal.returns
returns c =
    let events = c.args.events.now in
    let all : take c.loop-event.event-index events ≡ events = take_all c.loop-event.event-index events c.loop-event-test.false in
    c.loop-event.invariant ∙ ap (λ es. capped (4 + length (flat_map event_text es))) all ∙ ap capped (sym (length-batch_text events))
