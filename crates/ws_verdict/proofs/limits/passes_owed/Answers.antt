use Rattle.std.proofs.Common.{◌+◌, ap, ◌∙◌, arith}
use Rattle.std.specs.Prelude.{nat_lt}
use Rattle.ws_model.specs.Verdict.{owed_limit}
use Rattle.ws_verdict.proofs.Bounds.{cut_off}
use Rattle.ws_verdict.proofs.limits.passes_owed.Goals as goal

pub returns : goal.returns
returns c =
    record {
      stands = λ h since s l later.
          ap (nat_lt owed_limit) c.saturating_add.ensures
          ∙ cut_off owed_limit 18446744073709551615 c.live_of_topic-born.result c.owed.result (omega arith)
          ∙ (λ i. nat_lt owed_limit (c.live_of_topic-born.ensures.stands h since s l later i + c.owed.ensures.stands h since s l later i));
    }
