use Rattle.std.proofs.Common.{ap, length}
use Rattle.ws_model.specs.declared.answers.Kind.TheVariants.{Pending}
use Rattle.ws_model.specs.Intents.{pending}
use Rattle.ws_answer.specs.declared.fault.CoreFault.TheVariants.{Full}
use Rattle.ws_answer.proofs.Bounds.{full_one, room_one}
use Rattle.ws_answer.proofs.rooms.pending_room.Goals as goal

pub returns-then-held-ge-PENDING_LIMIT-clause-room : goal.returns-then-held-ge-PENDING_LIMIT-clause-room
returns-then-held-ge-PENDING_LIMIT-clause-room c h since s l =
    let e = c.pending-held.ensures.stands h since s l in
    (full_one 65536 c.pending-held.result (length (pending h)) e c.if-held-ge-PENDING_LIMIT.true, ap (λ k. Full Pending k 1 65536) e)

pub returns-clause-room : goal.returns-clause-room
returns-clause-room c h since s l = room_one 65536 c.pending-held.result (length (pending h)) (c.pending-held.ensures.stands h since s l) c.if-held-ge-PENDING_LIMIT.false
