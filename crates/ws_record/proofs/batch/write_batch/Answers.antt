use Rattle.std.proofs.Common.{◌≡◌, ◌++◌, length, take, ap, ◌∙◌, arith}
use Rattle.std.specs.Int.{w32}
use Rattle.std.specs.List.{flat_map}
use Rattle.std.proofs.lemmas.List.{take_all}
use Rattle.ws_record.specs.Text.{number_text}
use Rattle.ws_record.specs.NumberLaws.{wide32, length-number_text}
use Rattle.ws_record.specs.Batch.{event_text, batch_text}
use Rattle.ws_record.proofs.Events.{events-le, event-le, length-batch_text}
use Rattle.ws_record.proofs.batch.write_batch.Goals as goal

pub overflow_cast-count : goal.overflow_cast-count
overflow_cast-count c =
    let events = c.args.events.now in
    omega (arith, c.requires.short, events-le events, length-batch_text events)

pub write-requires : goal.write-requires
write-requires c = omega (arith, length-number_text w32 wide32 (length c.args.events.now))

pub write_event-requires-clause-short : goal.write_event-requires-clause-short
write_event-requires-clause-short c =
    let events = c.args.events.now in
    let le = event-le events c.loop-event.event-index c.event-item.result c.loop-event-test.true in
    let text_le = rw (← c.event-item.is) at le in
    omega (arith, text_le, c.requires.short, length-batch_text events)

pub returns-clause-text : goal.returns-clause-text
unfolding batch_text
returns-clause-text c =
    let events = c.args.events.now in
    let all : take c.loop-event.event-index events ≡ events = take_all c.loop-event.event-index events c.loop-event-test.false in
    c.from_vec.ensures ∙ c.loop-event.invariant.written ∙ ap (λ es. number_text w32 (length events) ++ flat_map event_text es) all
