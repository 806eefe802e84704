use Rattle.std.proofs.Common.{◌≡◌, false, ap, sym, ◌∙◌}
use Rattle.ws_fate.specs.Totals.{of_account}
use Rattle.ws_sweep.specs.Rows.{members}
use Rattle.ws_forgotten.specs.Forgotten.{has_stopped, less, sums}
use Rattle.ws_model.specs.Account.{account}
use Rattle.ws_forgotten.proofs.Whole.{all_are, all_left}
use Rattle.ws_forgotten.proofs.head.forgotten.Goals as goal

pub returns-then-has_stopped : goal.returns-then-has_stopped
returns-then-has_stopped c =
    record {
      stands = λ h since tables shown rooms others keeps said log l le.
          c.sums.ensures
          ∙ (λ j. sums (c.forgotten_before.ensures j) (c.newly_forgotten.ensures.counted j))
          ∙ all_are h since c.args.t c.args.fates.now c.args.kept.now shown c.newly_forgotten.ensures.ordered keeps l le (members c.args.log.now) log;
    }

pub returns-else-has_stopped : goal.returns-else-has_stopped
returns-else-has_stopped c =
    record {
      stands = λ h since tables shown rooms others keeps said log l le.
          let all : c.totals_of-all.result ≡ of_account (account h c.args.t) = c.totals_of-all.ensures ∙ ap of_account said in
          let goes_on : has_stopped (of_account (account h c.args.t)) ≡ false = sym (c.if-has_stopped.ensures ∙ ap has_stopped all) in
          c.less.ensures
          ∙ (λ j. less (all j) (c.kept_totals.ensures.stands h since tables shown l le j))
          ∙ all_left h c.args.t c.args.tries.now c.args.kept.now l keeps rooms others c.kept_totals.ensures.ordered goes_on;
    }
