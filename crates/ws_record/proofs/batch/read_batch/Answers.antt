use Rattle.ws_record.proofs.Events.{read-only}
use Rattle.ws_record.proofs.batch.read_batch.Goals as goal

pub returns-clause-only : goal.returns-clause-only
returns-clause-only c = λ es r b e.
    let begins = rw c.in-Some.is at c.in_ok-events.ensures in
    read-only c.args.bytes.now c.in-Some.rest.now r c.in-Some.events.items es begins b e
