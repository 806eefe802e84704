use Rattle.ws_model.specs.Leases.{live}
use Rattle.ws_model.specs.Moment.{time}
use Rattle.ws_core.proofs.GoneLeases.{told_by_intent}
use Rattle.ws_core.proofs.giving_back.is_live.Goals as goal

pub returns-in-Some : goal.returns-in-Some
returns-in-Some c = record { stands = λ h since s l le. told_by_intent c.args.lease (live h (time h)) _ (c.in-Some.ensures.stands h since s l le) }

pub returns-in-None : goal.returns-in-None
returns-in-None c = record { stands = λ h since s l le. told_by_intent c.args.lease (live h (time h)) _ (c.in-None.ensures.stands h since s l le) }
