use Rattle.std.proofs.Common.{◌≡◌, true, false, ap, sym, ◌∙◌, subst}
use Rattle.std.specs.Prelude.{IfOk}
use Rattle.ws_model.specs.declared.event.What.{What}
use Rattle.ws_model.specs.Verdict.{is_same}
use Rattle.ws_model.specs.Versions.{latest_of}
use Rattle.ws_verdict.proofs.Replies.{taken}
use Rattle.ws_verdict.proofs.fetches.answered.Goals as goal

pub returns-then-is_same : goal.returns-then-is_same
returns-then-is_same c =
    record {
      stands = λ h since link s l later own.
          let r = c.args.reply.now in
          let told = c.is_same.ensures ∙ ap (is_same r) (c.latest_version.ensures.stands h since s ∙ ap (λ topic. latest_of topic h) c.as_slice.ensures) in
          subst (λ (w : What). IfOk c.same.result (λ x. x ≡ w))
          (sym (taken h c.args.t c.args.topic.now c.args.upto link r true c.if-reply-ne200.false (sym c.is_coded.ensures ∙ c.if-is_coded.false) (sym told ∙ c.if-is_same.true)))
          c.same.ensures;
    }

pub returns : goal.returns
returns c =
    record {
      stands = λ h since link s l later own.
          let r = c.args.reply.now in
          let told = c.is_same.ensures ∙ ap (is_same r) (c.latest_version.ensures.stands h since s ∙ ap (λ topic. latest_of topic h) c.as_slice.ensures) in
          subst (λ (w : What). IfOk c.version.result (λ x. x ≡ w))
          (sym (taken h c.args.t c.args.topic.now c.args.upto link r false c.if-reply-ne200.false (sym c.is_coded.ensures ∙ c.if-is_coded.false) (sym told ∙ c.if-is_same.false)))
          (c.version.ensures.stands h since link s l later own);
    }
