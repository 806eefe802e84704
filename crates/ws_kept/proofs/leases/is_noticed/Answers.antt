use Rattle.std.proofs.Common.{ap, ◌∙◌}
use Rattle.ws_model.specs.Legal.{is_on_one}
use Rattle.ws_kept.proofs.leases.is_noticed.Goals as goal

pub returns-in-Some : goal.returns-in-Some
returns-in-Some c = record { stands = λ h since s. c.is_on.ensures ∙ ap is_on_one (c.in-Some.ensures.stands h since s) }

pub returns-in-None : goal.returns-in-None
returns-in-None c = record { stands = λ h since s. ap is_on_one (c.in-None.ensures.stands h since s) }
