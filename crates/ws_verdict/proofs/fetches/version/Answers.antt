use Rattle.std.proofs.Common.{◌≡◌, ◌+◌, ◌-◌, suc, Bool, false, cond, ap, sym, ◌∙◌, subst, arith, length}
use Rattle.std.specs.Prelude.{IfOk, ◌∷◌, ◌==◌}
use Rattle.ws_model.specs.declared.event.What.TheVariants.{Fetched, Unfetched}
use Rattle.ws_model.specs.Legal.{number_limit}
use Rattle.ws_model.specs.Moment.{version_number}
use Rattle.ws_model.specs.Verdict.{fetched, new_version, passes_limits}
use Rattle.ws_ownlink.proofs.Unique.{one_link}
use Rattle.ws_ownlink.specs.OwnLink.{IsOwnLink}
use Rattle.ws_verdict.specs.Settles.{content}
use Rattle.ws_verdict.proofs.Bounds.{is_last, not_last, or_first, or_second}
use Rattle.ws_verdict.proofs.fetches.version.Goals as goal

pub returns-then-last-ge-LAST_NUMBER : goal.returns-then-last-ge-LAST_NUMBER
returns-then-last-ge-LAST_NUMBER c =
    record {
      stands = λ h since link s l later own.
          let v = new_version h c.args.topic.now c.args.upto link c.args.reply.now in
          subst (λ (b : Bool). IfOk c.unfetched.result (λ w. w ≡ cond b (Unfetched c.args.topic.now c.args.upto 5) (Fetched v)))
          (sym (or_second (passes_limits (fetched h c.args.t (Fetched v) ∷ h) c.args.t) (version_number h == number_limit - 1) (is_last h c.version_number-last.result l (c.version_number-last.ensures.stands h since s) c.if-last-ge-LAST_NUMBER.true)))
          c.unfetched.ensures;
    }

pub returns : goal.returns
returns c =
    record {
      stands = λ h since link s l later own.
          let v = new_version h c.args.topic.now c.args.upto link c.args.reply.now in
          let last = c.version_number-last.ensures.stands h since s in
          let next : c.version_number-last.result + 1 ≡ suc (version_number h) = omega arith in
          let same = one_link c.args.topic.now c.args.reply.now.links c.in_ok-link.link link (subst (λ z. IsOwnLink c.args.topic.now z c.in_ok-link.link) c.as_slice-3.ensures c.in_ok-link.ensures.link) own in
          let is : c.in_ok-content.field-0 ≡ v = c.in_ok-content.ensures ∙ (λ i. content (next i) c.args.topic.now c.args.upto (same i) c.args.reply.now) in
          let few : passes_limits (fetched h c.args.t (Fetched v) ∷ h) c.args.t ≡ false =
          sym (c.in_ok-passes_limits.ensures.stands h since v s l later (sym c.as_slice-2.ensures) (sym (ap length c.as_slice.ensures)) (omega arith)) ∙ c.if-branch.false in
          ap (λ w. Fetched w) is
          ∙ sym (ap (λ (b : Bool). cond b (Unfetched c.args.topic.now c.args.upto 5) (Fetched v))
          (or_first (passes_limits (fetched h c.args.t (Fetched v) ∷ h) c.args.t) (version_number h == number_limit - 1) (not_last (number_limit - 1) c.version_number-last.result (version_number h) last c.if-last-ge-LAST_NUMBER.false) ∙ few));
    }
