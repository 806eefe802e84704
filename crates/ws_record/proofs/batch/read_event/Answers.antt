use Rattle.ws_record.proofs.Events.{event-lacks, event-lacks_time}
use Rattle.ws_record.proofs.batch.read_event.Goals as goal

pub returns-in_default : goal.returns-in_default
returns-in_default c = event-lacks c.args.bytes.now (rw c.in_default.is at c.in_ok-serial.ensures)

pub returns-then-t-ge-TIME_END : goal.returns-then-t-ge-TIME_END
returns-then-t-ge-TIME_END c =
    let parts = rw c.in-Some.is at c.in_ok-serial.ensures in
    event-lacks_time c.args.bytes.now c.in-Some.serial c.in-Some.t c.in-Some.what c.in-Some.rest.now parts c.if-t-ge-TIME_END.true
