use Rattle.ws_ledger.proofs.Needed.{due_has_intent}
use Rattle.ws_ledger.proofs.laws.due_has_intent.Goals as goal

pub returns : goal.returns
returns c = due_has_intent
