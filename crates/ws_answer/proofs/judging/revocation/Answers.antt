use Rattle.std.proofs.Common.{ap, sym, ◌∙◌}
use Rattle.std.specs.Prelude.{codes, option_map, Some}
use Rattle.ws_model.specs.declared.event.What.TheVariants.{Revoked}
use Rattle.ws_model.specs.Revocation.{live_lease_of}
use Rattle.ws_answer.proofs.Revoking.{revoked_by}
use Rattle.ws_answer.proofs.judging.revocation.Goals as goal

pub returns-in_default : goal.returns-in_default
returns-in_default c =
    record {
      stands = λ h since s l later.
          ap (option_map (λ n. Revoked n (codes "subscription revoked"))) (sym c.in_default.is)
          ∙ revoked_by (live_lease_of h c.args.t c.args.topic.now c.args.callback.now) c.live_lease.result (c.live_lease.ensures.stands h since s l later ∙ (λ i. option_map (λ x. x.intent.n) (live_lease_of h c.args.t (c.as_slice.ensures i) (c.as_slice-2.ensures i))));
    }

pub returns : goal.returns
returns c =
    record {
      stands = λ h since s l later.
          ap (λ reason. Some (Revoked c.in-Some.n reason)) c.in_ok-reason.ensures
          ∙ ap (option_map (λ n. Revoked n (codes "subscription revoked"))) (sym c.in-Some.is)
          ∙ revoked_by (live_lease_of h c.args.t c.args.topic.now c.args.callback.now) c.live_lease.result (c.live_lease.ensures.stands h since s l later ∙ (λ i. option_map (λ x. x.intent.n) (live_lease_of h c.args.t (c.as_slice.ensures i) (c.as_slice-2.ensures i))));
    }
