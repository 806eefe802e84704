use Rattle.ws_delivery.proofs.Agreeing.{next_due_agrees}
use Rattle.ws_delivery.proofs.laws.next_due_agrees.Goals as goal

pub returns : goal.returns
returns c = next_due_agrees
