use Rattle.std.proofs.Common.{◌≡◌, sym, subst}
use Rattle.std.specs.Prelude.{IfOk}
use Rattle.ws_model.specs.declared.work.Outcome.{Outcome}
use Rattle.ws_model.specs.Verdict.{fetch_verdict}
use Rattle.ws_verdict.specs.Settles.{IsReplyLink}
use Rattle.ws_verdict.proofs.fetches.fetch.Goals as goal

pub returns-in-Reply : goal.returns-in-Reply
returns-in-Reply c =
    record {
      stands = λ h since link s l later own.
          subst (λ (o : Outcome). IfOk c.answered.result (λ w. w ≡ fetch_verdict h c.args.t c.args.topic.now c.args.upto link o)) (sym c.in-Reply.is)
          (c.answered.ensures.stands h since link s l later (subst (λ (o : Outcome). IsReplyLink c.args.topic.now o link) c.in-Reply.is own));
    }
