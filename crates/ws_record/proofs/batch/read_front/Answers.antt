use Rattle.ws_record.proofs.Events.{batch-lacks_count, batch-lacks_some, front-reads}
use Rattle.ws_record.proofs.batch.read_front.Goals as goal

pub returns-in_default : goal.returns-in_default
returns-in_default c = batch-lacks_count c.args.bytes.now (rw c.in_default.is at c.in_ok-count.ensures)

pub returns-then-count-eq0 : goal.returns-then-count-eq0
returns-then-count-eq0 c =
    let first = rw c.in-Some.is at c.in_ok-count.ensures in
    batch-lacks_some c.args.bytes.now c.in-Some.rest.now c.in-Some.count first c.if-count-eq0.true

pub returns : goal.returns
returns c =
    let first = rw c.in-Some.is at c.in_ok-count.ensures in
    front-reads (λ p. (p.0.items, p.1.now)) c.args.bytes.now c.in-Some.rest.now c.in-Some.count first c.if-count-eq0.false
    c.read_events.result c.read_events.ensures
