use Rattle.std.proofs.Common.{ap}
use Rattle.ws_model.specs.Versions.{is_version}
use Rattle.ws_kept.proofs.versions.is_latest_of.Goals as goal

pub returns-in-Some : goal.returns-in-Some
returns-in-Some c = record { stands = λ h since s. ap (is_version c.args.ver) (c.in-Some.ensures.stands h since s) }

pub returns-in-None : goal.returns-in-None
returns-in-None c = record { stands = λ h since s. ap (is_version c.args.ver) (c.in-None.ensures.stands h since s) }
