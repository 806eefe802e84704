use Rattle.std.proofs.Common.{sym, ◌∙◌, arith}
use Rattle.ws_record.proofs.Events.{events-lacks}
use Rattle.ws_record.proofs.batch.read_events.Goals as goal

pub returns-in_default : goal.returns-in_default
returns-in_default c = λ es r are e.
    let lacks = rw c.in_default.is at c.in_ok-event.ensures in
    events-lacks c.loop.events.items es c.loop.rest.now r c.loop.invariant.fit are.1
    (omega (arith, are.0, c.loop.invariant.count, c.loop-test.true)) lacks (sym c.loop.invariant.parts ∙ e)
