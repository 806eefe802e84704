use Rattle.std.proofs.Common.{◌≡◌, ◌+◌, ◌-◌, true, false, ap, sym, ◌∙◌, subst, suc, length, cond}
use Rattle.std.specs.Prelude.{nat_lt, ◌==◌}
use Rattle.ws_model.specs.declared.answers.Kind.TheVariants.{Numbers}
use Rattle.ws_model.specs.Answer.{Events, Full as IsFull}
use Rattle.ws_model.specs.Legal.{number_limit}
use Rattle.ws_model.specs.Moment.{intent_number, serial}
use Rattle.ws_answer.specs.declared.fault.CoreFault.TheVariants.{Full}
use Rattle.ws_answer.specs.Wishes.{events_of, intent_of}
use Rattle.ws_answer.proofs.Composed.{err_is, made_here, number_of, room_err, room_ok}
use Rattle.ws_answer.proofs.subscription.numbered.Goals as goal

pub returns-in_err-serial_room : goal.returns-in_err-serial_room
returns-in_err-serial_room c =
    record {
      stands = λ h since s l.
          let i = intent_of (suc (intent_number h)) c.args.wish.now in
          let few : 1 + c.from.result ≡ length (events_of c.args.is_denied i) = ap (λ k. 1 + k) c.from.ensures ∙ number_of c.args.is_denied i in
          room_err (nat_lt (number_limit - 1) (serial h + length (events_of c.args.is_denied i))) Numbers (serial h) (length (events_of c.args.is_denied i)) (number_limit - 1) c.in_err-serial_room.field-0.0 c.from_residual.result
          (cond (intent_number h == number_limit - 1) (IsFull Numbers (intent_number h) 1 (number_limit - 1)) (Events (events_of c.args.is_denied i)))
          (subst (λ k. (nat_lt (number_limit - 1) (serial h + k) ≡ true) × (c.in_err-serial_room.field-0.0 ≡ Full Numbers (serial h) k (number_limit - 1))) few (c.in_err-serial_room.ensures.room h since s l))
          (err_is c.in_err-serial_room.field-0.0 c.from_residual.result c.from_residual.ensures.1);
    }

pub returns-in_err-next_intent : goal.returns-in_err-next_intent
returns-in_err-next_intent c =
    record {
      stands = λ h since s l.
          let i = intent_of (suc (intent_number h)) c.args.wish.now in
          let few : 1 + c.from.result ≡ length (events_of c.args.is_denied i) = ap (λ k. 1 + k) c.from.ensures ∙ number_of c.args.is_denied i in
          room_ok (nat_lt (number_limit - 1) (serial h + length (events_of c.args.is_denied i))) (IsFull Numbers (serial h) (length (events_of c.args.is_denied i)) (number_limit - 1))
          (cond (intent_number h == number_limit - 1) (IsFull Numbers (intent_number h) 1 (number_limit - 1)) (Events (events_of c.args.is_denied i))) c.from_residual-in_err-next_intent.result
          (subst (λ k. nat_lt (number_limit - 1) (serial h + k) ≡ false) few (c.in_ok-serial_room.ensures.room h since s l))
          (room_err (intent_number h == number_limit - 1) Numbers (intent_number h) 1 (number_limit - 1) c.in_err-next_intent.field-0.0 c.from_residual-in_err-next_intent.result (Events (events_of c.args.is_denied i))
          (c.in_err-next_intent.ensures.room h since s l)
          (err_is c.in_err-next_intent.field-0.0 c.from_residual-in_err-next_intent.result c.from_residual-in_err-next_intent.ensures.1));
    }

pub returns-then-is_denied : goal.returns-then-is_denied
returns-then-is_denied c =
    record {
      stands = λ h since s l.
          let i = intent_of (suc (intent_number h)) c.args.wish.now in
          let few : 1 + c.from.result ≡ length (events_of c.args.is_denied i) = ap (λ k. 1 + k) c.from.ensures ∙ number_of c.args.is_denied i in
          room_ok (nat_lt (number_limit - 1) (serial h + length (events_of c.args.is_denied i))) (IsFull Numbers (serial h) (length (events_of c.args.is_denied i)) (number_limit - 1))
          (cond (intent_number h == number_limit - 1) (IsFull Numbers (intent_number h) 1 (number_limit - 1)) (Events (events_of c.args.is_denied i))) c.denied.result
          (subst (λ k. nat_lt (number_limit - 1) (serial h + k) ≡ false) few (c.in_ok-serial_room.ensures.room h since s l))
          (room_ok (intent_number h == number_limit - 1) (IsFull Numbers (intent_number h) 1 (number_limit - 1)) (Events (events_of c.args.is_denied i)) c.denied.result (c.in_ok-next_intent.ensures.room h since s l)
          (made_here (events_of true c.in_ok-intent.intent) (events_of c.args.is_denied i) c.denied.result (λ k. events_of (sym c.if-is_denied.true k) ((c.in_ok-intent.ensures ∙ ap (λ n. intent_of n c.args.wish.now) (c.in_ok-next_intent.ensures.next h since s)) k)) c.denied.ensures.events c.denied.ensures.memory));
    }

pub returns-else-is_denied : goal.returns-else-is_denied
returns-else-is_denied c =
    record {
      stands = λ h since s l.
          let i = intent_of (suc (intent_number h)) c.args.wish.now in
          let few : 1 + c.from.result ≡ length (events_of c.args.is_denied i) = ap (λ k. 1 + k) c.from.ensures ∙ number_of c.args.is_denied i in
          room_ok (nat_lt (number_limit - 1) (serial h + length (events_of c.args.is_denied i))) (IsFull Numbers (serial h) (length (events_of c.args.is_denied i)) (number_limit - 1))
          (cond (intent_number h == number_limit - 1) (IsFull Numbers (intent_number h) 1 (number_limit - 1)) (Events (events_of c.args.is_denied i))) c.asked.result
          (subst (λ k. nat_lt (number_limit - 1) (serial h + k) ≡ false) few (c.in_ok-serial_room.ensures.room h since s l))
          (room_ok (intent_number h == number_limit - 1) (IsFull Numbers (intent_number h) 1 (number_limit - 1)) (Events (events_of c.args.is_denied i)) c.asked.result (c.in_ok-next_intent.ensures.room h since s l)
          (made_here (events_of false c.in_ok-intent.intent) (events_of c.args.is_denied i) c.asked.result (λ k. events_of (sym c.if-is_denied.false k) ((c.in_ok-intent.ensures ∙ ap (λ n. intent_of n c.args.wish.now) (c.in_ok-next_intent.ensures.next h since s)) k)) c.asked.ensures.events c.asked.ensures.memory));
    }
