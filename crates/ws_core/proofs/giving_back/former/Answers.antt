use Rattle.std.proofs.Common.{ap}
use Rattle.ws_core.specs.GivenBack.{former}
use Rattle.ws_core.proofs.giving_back.former.Goals as goal

pub returns-in-Some : goal.returns-in-Some
returns-in-Some c = record { stands = λ h since s. ap former (c.in-Some.ensures.stands h since s) }

pub returns-in-None : goal.returns-in-None
returns-in-None c = record { stands = λ h since s. ap former (c.in-None.ensures.stands h since s) }
