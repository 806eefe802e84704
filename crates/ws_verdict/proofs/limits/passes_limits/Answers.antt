use Rattle.std.proofs.Common.{◌≡◌, ◌≤◌, sym, ◌∙◌, subst, arith, Bool}
use Rattle.std.specs.Prelude.{IfOk}
use Rattle.ws_model.specs.Moment.{last_time}
use Rattle.ws_verdict.proofs.Bounds.{or_first, or_second}
use Rattle.ws_verdict.proofs.NewVersion.{limits_by}
use Rattle.ws_verdict.proofs.limits.passes_limits.Goals as goal

pub returns-then-passes_owed : goal.returns-then-passes_owed
returns-then-passes_owed c =
    record {
      stands = λ h since v s l later of many new.
          let in_time : last_time h ≤ c.args.t = let begun = s.leases.begun in omega arith in
          sym (limits_by h c.args.t v c.args.topic.now c.args.bytes l in_time new of many
          ∙ or_second _ _ (sym (c.passes_owed.ensures.stands h since s l later) ∙ c.if-passes_owed.true));
    }

pub returns : goal.returns
returns c =
    record {
      stands = λ h since v s l later of many new.
          let in_time : last_time h ≤ c.args.t = let begun = s.leases.begun in omega arith in
          subst (λ (x : Bool). IfOk c.passes_kept.result (λ b. b ≡ x))
          (sym (limits_by h c.args.t v c.args.topic.now c.args.bytes l in_time new of many
          ∙ or_first _ _ (sym (c.passes_owed.ensures.stands h since s l later) ∙ c.if-passes_owed.false)))
          (c.passes_kept.ensures.stands h since s l later);
    }
