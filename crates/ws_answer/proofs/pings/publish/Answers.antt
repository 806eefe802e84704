use Rattle.std.proofs.Common.{◌≡◌, ◌+◌, ◌-◌, false, true, ap, sym, ◌∙◌, subst, length, cond, map, filter}
use Rattle.std.specs.Prelude.{nat_lt}
use Rattle.ws_model.specs.declared.answers.Kind.TheVariants.{Numbers}
use Rattle.ws_model.specs.declared.event.What.TheVariants.{Pinged}
use Rattle.ws_model.specs.Answer.{Events, Full as IsFull, first_mentions, has_live_lease}
use Rattle.ws_model.specs.Legal.{number_limit}
use Rattle.ws_model.specs.Moment.{serial}
use Rattle.ws_answer.specs.declared.fault.CoreFault.TheVariants.{Full}
use Rattle.ws_answer.proofs.Composed.{err_is, room_err}
use Rattle.ws_answer.proofs.pings.publish.Goals as goal

pub returns-in_err-serial_room : goal.returns-in_err-serial_room
returns-in_err-serial_room c =
    record {
      stands = λ h since s l later.
          let events = map (λ topic. Pinged topic) (filter (has_live_lease h c.args.t) (first_mentions c.args.topics.now)) in
          let same : c.in_ok-events.events.items ≡ events = c.in_ok-events.ensures.pings h since s l later ∙ ap (λ topics. map (λ topic. Pinged topic) (filter (has_live_lease h c.args.t) (first_mentions topics))) c.as_slice.ensures in
          let many : c.len.result ≡ length events = c.len.ensures ∙ c.in_ok-events.events.ok.0 ∙ ap length same in
          room_err (nat_lt (number_limit - 1) (serial h + length events)) Numbers (serial h) (length events) (number_limit - 1) c.in_err-serial_room.field-0.0 c.from_residual-in_err-serial_room.result (Events events)
          (subst (λ k. (nat_lt (number_limit - 1) (serial h + k) ≡ true) × (c.in_err-serial_room.field-0.0 ≡ Full Numbers (serial h) k (number_limit - 1))) many (c.in_err-serial_room.ensures.room h since s l))
          (err_is c.in_err-serial_room.field-0.0 c.from_residual-in_err-serial_room.result c.from_residual-in_err-serial_room.ensures.1);
    }

pub returns : goal.returns
returns c =
    record {
      stands = λ h since s l later.
          let events = map (λ topic. Pinged topic) (filter (has_live_lease h c.args.t) (first_mentions c.args.topics.now)) in
          let same : c.in_ok-events.events.items ≡ events = c.in_ok-events.ensures.pings h since s l later ∙ ap (λ topics. map (λ topic. Pinged topic) (filter (has_live_lease h c.args.t) (first_mentions topics))) c.as_slice.ensures in
          let many : c.len.result ≡ length events = c.len.ensures ∙ c.in_ok-events.events.ok.0 ∙ ap length same in
          ap (λ b. cond b (IsFull Numbers (serial h) (length events) (number_limit - 1)) (Events events)) (subst (λ k. nat_lt (number_limit - 1) (serial h + k) ≡ false) many (c.in_ok-serial_room.ensures.room h since s l))
          ∙ ap Events (sym same);
    }
