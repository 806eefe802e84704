use Rattle.std.proofs.Common.{sym, subst}
use Rattle.ws_model.specs.Answer.{subscribe_answer}
use Rattle.ws_port.specs.Requests.{answer}
use Rattle.ws_answer.specs.Judged.{Answers}
use Rattle.ws_answer.proofs.judging.judge.Goals as goal

pub returns-in-Publish : goal.returns-in-Publish
returns-in-Publish c =
    record {
      stands = λ h since s l later. subst (λ ask. Answers (answer h c.args.t ask c.args.policy.now) c.publish.result) (sym c.in-Publish.is) (c.publish.ensures.stands h since s l later);
    }

pub returns-in-Unsubscribe : goal.returns-in-Unsubscribe
returns-in-Unsubscribe c =
    record {
      stands = λ h since s l later. subst (λ ask. Answers (answer h c.args.t ask c.args.policy.now) c.unsubscribe.result) (sym c.in-Unsubscribe.is) (c.unsubscribe.ensures.stands h since s l);
    }

pub returns-in-Subscribe : goal.returns-in-Subscribe
returns-in-Subscribe c =
    record {
      stands = λ h since s l later. subst (λ ask. Answers (answer h c.args.t ask c.args.policy.now) c.subscribe.result) (sym c.in-Subscribe.is)
          (subst (λ secret. Answers (subscribe_answer h c.args.t c.args.policy.now.allow c.args.policy.now.alg c.in-Subscribe.topic c.in-Subscribe.echo c.in-Subscribe.callback secret c.in-Subscribe.granted) c.subscribe.result) c.as_slice.ensures (c.subscribe.ensures.stands h since s l later));
    }
