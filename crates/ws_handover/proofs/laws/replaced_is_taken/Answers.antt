use Rattle.ws_handover.proofs.Taken.{replaced_is_taken}
use Rattle.ws_handover.proofs.laws.replaced_is_taken.Goals as goal

pub returns : goal.returns
returns c = replaced_is_taken
