use Rattle.std.proofs.Common.{ap, sym, ◌∙◌, subst}
use Rattle.ws_model.specs.declared.answers.Settled.TheVariants.{Event as Happened}
use Rattle.ws_model.specs.declared.work.Work.{Work}
use Rattle.ws_model.specs.Verdict.{verdict}
use Rattle.ws_verdict.specs.Settles.{CanSettle}
use Rattle.ws_verdict.proofs.settling.settle.Goals as goal

pub returns-in-Verify : goal.returns-in-Verify
returns-in-Verify c =
    record {
      stands = λ h since link s l later can own.
          ap (λ w. Happened w) (c.verification-what.ensures.stands h since s (subst (λ (w : Work). CanSettle h c.args.t w c.args.fate) c.in-Verify.is can))
          ∙ ap (λ (w : Work). verdict h c.args.t w c.args.sent c.args.challenge.now link c.args.outcome.now) (sym c.in-Verify.is);
    }
