use Rattle.ws_front.proofs.Serving.{serves_message, message_cause, disk_cause}
use Rattle.ws_front.proofs.serve.converse.Goals as goal

pub returns-in-Ok-clause-serves : goal.returns-in-Ok-clause-serves
returns-in-Ok-clause-serves g c =
    let q = rw c.as_slice.ensures at c.in-Ok.ensures.requests in
    serves_message _ _ _ _ _ _ _ _ c.in-Ok.message c.finish.result q c.finish.ensures.finishes

pub returns-in-Ok-clause-causes : goal.returns-in-Ok-clause-causes
returns-in-Ok-clause-causes g c =
    message_cause _ _ _ _ _ _ _ c.in-Ok.message c.finish.result _ _ _ _ _ _ _ _ _ c.in-Ok.ensures.requests c.finish.ensures.finishes
    (λ ruling f. disk_cause g.P.Port.sole g.P.Port.stored g.P.Port.seen g.P.Port.settings g.P.Port.moment g.P.Port.faults c.args.now c.args.port.now c.finish.new.port _ ruling _ _ _ f)
    c.in-Ok.ensures.causes c.finish.ensures.cause
