use Rattle.ws_laws.proofs.DueWork.{due_is_licensed}
use Rattle.ws_laws.proofs.fates.due_is_licensed.Goals as goal

pub returns : goal.returns
returns c = due_is_licensed
