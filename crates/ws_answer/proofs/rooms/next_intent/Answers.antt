use Rattle.std.proofs.Common.{◌-◌, ap, arith}
use Rattle.ws_model.specs.declared.answers.Kind.TheVariants.{Numbers}
use Rattle.ws_model.specs.Legal.{number_limit}
use Rattle.ws_model.specs.Moment.{intent_number}
use Rattle.ws_answer.specs.declared.fault.CoreFault.TheVariants.{Full}
use Rattle.ws_answer.proofs.Bounds.{last_one, not_last, within_last}
use Rattle.ws_answer.proofs.rooms.next_intent.Goals as goal

pub returns-then-held-ge-LAST_NUMBER-clause-room : goal.returns-then-held-ge-LAST_NUMBER-clause-room
returns-then-held-ge-LAST_NUMBER-clause-room c h since s l =
    let e = c.intent_number-held.ensures.stands h since s in
    (last_one (number_limit - 1) c.intent_number-held.result (intent_number h) e (within_last h l) c.if-held-ge-LAST_NUMBER.true, ap (λ k. Full Numbers k 1 (number_limit - 1)) e)

pub returns-clause-room : goal.returns-clause-room
returns-clause-room c h since s l = not_last (number_limit - 1) c.intent_number-held.result (intent_number h) (c.intent_number-held.ensures.stands h since s) c.if-held-ge-LAST_NUMBER.false

pub returns-clause-next : goal.returns-clause-next
returns-clause-next c h since s = let e = c.intent_number-held.ensures.stands h since s in omega arith
