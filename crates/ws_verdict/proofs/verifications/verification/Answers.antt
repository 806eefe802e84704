use Rattle.std.proofs.Common.{◌≡◌, ◌&&◌, Bool, true, false, cond, ap, sym, ◌∙◌}
use Rattle.std.specs.Prelude.{bytes_eq}
use Rattle.ws_model.specs.declared.event.What.TheVariants.{Confirmed, Declined}
use Rattle.ws_model.specs.Verdict.{in_time_one, intent_of, is_success, verify_verdict}
use Rattle.ws_verdict.proofs.Pending.{pending_asked}
use Rattle.ws_verdict.proofs.verifications.verification.Goals as goal

pub returns-then-is_confirmation : goal.returns-then-is_confirmation
returns-then-is_confirmation c =
    record {
      stands = λ h since s k.
          let r = c.in-Reply.reply in
          let in_time : c.is_one_in_time-in_time.result ≡ in_time_one c.args.sent c.args.t (intent_of h c.args.n) =
          c.is_one_in_time-in_time.ensures ∙ ap (in_time_one c.args.sent c.args.t) (c.pending_intent.ensures.stands h since s ∙ pending_asked h c.args.n k) in
          let test : (is_success r.code && bytes_eq r.body c.args.challenge.now && in_time_one c.args.sent c.args.t (intent_of h c.args.n)) ≡ true =
          sym (c.is_confirmation.ensures ∙ (λ i. is_success r.code && bytes_eq r.body (c.as_slice.ensures i) && in_time i)) ∙ c.if-is_confirmation.true in
          sym (ap (verify_verdict h c.args.t c.args.n c.args.sent c.args.challenge.now) c.in-Reply.is ∙ ap (λ (b : Bool). cond b (Confirmed c.args.n c.args.sent) (Declined c.args.n r.code)) test);
    }

pub returns-else-is_confirmation : goal.returns-else-is_confirmation
returns-else-is_confirmation c =
    record {
      stands = λ h since s k.
          let r = c.in-Reply.reply in
          let in_time : c.is_one_in_time-in_time.result ≡ in_time_one c.args.sent c.args.t (intent_of h c.args.n) =
          c.is_one_in_time-in_time.ensures ∙ ap (in_time_one c.args.sent c.args.t) (c.pending_intent.ensures.stands h since s ∙ pending_asked h c.args.n k) in
          let test : (is_success r.code && bytes_eq r.body c.args.challenge.now && in_time_one c.args.sent c.args.t (intent_of h c.args.n)) ≡ false =
          sym (c.is_confirmation.ensures ∙ (λ i. is_success r.code && bytes_eq r.body (c.as_slice.ensures i) && in_time i)) ∙ c.if-is_confirmation.false in
          sym (ap (verify_verdict h c.args.t c.args.n c.args.sent c.args.challenge.now) c.in-Reply.is ∙ ap (λ (b : Bool). cond b (Confirmed c.args.n c.args.sent) (Declined c.args.n r.code)) test);
    }
