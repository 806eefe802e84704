use Rattle.std.proofs.Common.{◌++◌, sym, ap}
use Rattle.std.specs.Prelude.{codes}
use Rattle.ws_target.specs.declared.fault.TargetFault.{TargetFault}
use Rattle.ws_form.specs.FaultText.{reason}
use Rattle.ws_form.proofs.fault.topic_text.Goals as goal

pub returns-in-SchemeNotServed : goal.returns-in-SchemeNotServed
returns-in-SchemeNotServed c = sym (ap (λ (fault : TargetFault). codes "hub.topic: " ++ reason fault) c.in-SchemeNotServed.is)
