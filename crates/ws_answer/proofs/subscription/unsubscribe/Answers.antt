use Rattle.std.proofs.Common.{◌+◌, false, suc, length}
use Rattle.std.specs.Prelude.{nat_lt}
use Rattle.ws_model.specs.declared.answers.Kind.TheVariants.{Pending}
use Rattle.ws_model.specs.Answer.{Full as IsFull, pending_limit, within_numbers}
use Rattle.ws_model.specs.Intents.{pending}
use Rattle.ws_model.specs.Moment.{intent_number}
use Rattle.ws_answer.specs.Wishes.{events_of, intent_of}
use Rattle.ws_answer.proofs.Composed.{err_is, room_err, room_ok}
use Rattle.ws_answer.proofs.subscription.unsubscribe.Goals as goal

pub returns-in_err-pending_room : goal.returns-in_err-pending_room
returns-in_err-pending_room c =
    record {
      stands = λ h since s l.
          room_err (nat_lt pending_limit (length (pending h) + 1)) Pending (length (pending h)) 1 pending_limit c.in_err-pending_room.field-0.0 c.from_residual.result
          (within_numbers h (events_of false (intent_of (suc (intent_number h)) c.args.wish.now)))
          (c.in_err-pending_room.ensures.room h since s l)
          (err_is c.in_err-pending_room.field-0.0 c.from_residual.result c.from_residual.ensures.1);
    }

pub returns : goal.returns
returns c =
    record {
      stands = λ h since s l.
          room_ok (nat_lt pending_limit (length (pending h) + 1)) (IsFull Pending (length (pending h)) 1 pending_limit)
          (within_numbers h (events_of false (intent_of (suc (intent_number h)) c.args.wish.now))) c.numbered.result
          (c.in_ok-pending_room.ensures.room h since s l) (c.numbered.ensures.stands h since s l);
    }
