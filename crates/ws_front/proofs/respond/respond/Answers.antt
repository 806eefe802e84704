use Rattle.std.proofs.Common.{refl}
use Rattle.ws_front.proofs.Responding.{message_refused}
use Rattle.ws_front.proofs.respond.respond.Goals as goal

pub returns-in-Refused-clause-responds : goal.returns-in-Refused-clause-responds
returns-in-Refused-clause-responds g c ruling is =
    let r = rw c.in-Refused.is at is in
    message_refused c.args.gateway _ c.in-Refused.refusal ruling c.of_refusal.result r c.of_refusal.ensures refl refl
