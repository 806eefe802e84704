use Rattle.ws_laws.proofs.Views.{advances}
use Rattle.ws_laws.proofs.steps.advances.Goals as goal

pub returns : goal.returns
returns c = advances
