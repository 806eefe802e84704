use Rattle.std.proofs.Common.{◌≡◌, ◌+◌, ap, ◌∙◌, subst, suc, length}
use Rattle.std.specs.Prelude.{nat_lt}
use Rattle.ws_model.specs.declared.answers.Kind.TheVariants.{Pending, Leases}
use Rattle.ws_model.specs.Answer.{Full as IsFull, held_leases, is_disallowed, lease_limit, pending_limit, subscription_events, within_leases, within_numbers}
use Rattle.ws_model.specs.Intents.{pending}
use Rattle.ws_model.specs.Moment.{intent_number}
use Rattle.ws_answer.specs.Judged.{Answers}
use Rattle.ws_answer.specs.Wishes.{events_of, intent_of}
use Rattle.ws_answer.proofs.Composed.{chosen, err_is, room_err, room_ok}
use Rattle.ws_answer.proofs.subscription.subscribe.Goals as goal

pub returns-in_err-pending_room : goal.returns-in_err-pending_room
returns-in_err-pending_room c =
    record {
      stands = λ h since s l later.
          room_err (nat_lt pending_limit (length (pending h) + 1)) Pending (length (pending h)) 1 pending_limit c.in_err-pending_room.field-0.0 c.from_residual.result
          (within_leases h c.args.t (within_numbers h (subscription_events c.args.allow.now (intent_of (suc (intent_number h)) c.args.wish.now))))
          (c.in_err-pending_room.ensures.room h since s l)
          (err_is c.in_err-pending_room.field-0.0 c.from_residual.result c.from_residual.ensures.1);
    }

pub returns-in_err-lease_room : goal.returns-in_err-lease_room
returns-in_err-lease_room c =
    record {
      stands = λ h since s l later.
          room_ok (nat_lt pending_limit (length (pending h) + 1)) (IsFull Pending (length (pending h)) 1 pending_limit)
          (within_leases h c.args.t (within_numbers h (subscription_events c.args.allow.now (intent_of (suc (intent_number h)) c.args.wish.now)))) c.from_residual-in_err-lease_room.result
          (c.in_ok-pending_room.ensures.room h since s l)
          (room_err (nat_lt lease_limit (held_leases h c.args.t + 1)) Leases (held_leases h c.args.t) 1 lease_limit c.in_err-lease_room.field-0.0 c.from_residual-in_err-lease_room.result
          (within_numbers h (subscription_events c.args.allow.now (intent_of (suc (intent_number h)) c.args.wish.now)))
          (c.in_err-lease_room.ensures.room h since s l later)
          (err_is c.in_err-lease_room.field-0.0 c.from_residual-in_err-lease_room.result c.from_residual-in_err-lease_room.ensures.1));
    }

pub returns : goal.returns
returns c =
    record {
      stands = λ h since s l later.
          let i = intent_of (suc (intent_number h)) c.args.wish.now in
          let same : events_of c.is_disallowed.result i ≡ subscription_events c.args.allow.now i =
          (λ k. events_of ((c.is_disallowed.ensures ∙ ap (is_disallowed c.args.allow.now) c.as_slice.ensures) k) i) ∙ chosen (is_disallowed c.args.allow.now i.topic) i in
          room_ok (nat_lt pending_limit (length (pending h) + 1)) (IsFull Pending (length (pending h)) 1 pending_limit)
          (within_leases h c.args.t (within_numbers h (subscription_events c.args.allow.now i))) c.numbered.result
          (c.in_ok-pending_room.ensures.room h since s l)
          (room_ok (nat_lt lease_limit (held_leases h c.args.t + 1)) (IsFull Leases (held_leases h c.args.t) 1 lease_limit)
          (within_numbers h (subscription_events c.args.allow.now i)) c.numbered.result
          (c.in_ok-lease_room.ensures.room h since s l later)
          (subst (λ events. Answers (within_numbers h events) c.numbered.result) same (c.numbered.ensures.stands h since s l)));
    }
