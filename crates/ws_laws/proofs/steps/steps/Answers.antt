use Rattle.ws_laws.proofs.Views.{steps}
use Rattle.ws_laws.proofs.steps.steps.Goals as goal

pub returns : goal.returns
returns c = steps
