use Rattle.std.proofs.Common.{ap, ◌∙◌}
use Rattle.std.specs.Prelude.{is_some, ◌==◌}
use Rattle.ws_model.specs.Intents.{notices}
use Rattle.ws_laws.proofs.Follow.{some_found}
use Rattle.ws_core.proofs.giving_back.is_noticed.Goals as goal

pub returns-in-Some : goal.returns-in-Some
returns-in-Some c = record { stands = λ h since s. ap is_some (c.in-Some.ensures.stands h since s) ∙ some_found (λ i. i.n == c.args.lease) (notices h) }

pub returns-in-None : goal.returns-in-None
returns-in-None c = record { stands = λ h since s. ap is_some (c.in-None.ensures.stands h since s) ∙ some_found (λ i. i.n == c.args.lease) (notices h) }
