use Rattle.ws_handover.proofs.Taken.{taken_is_replaced}
use Rattle.ws_handover.proofs.laws.taken_is_replaced.Goals as goal

pub returns : goal.returns
returns c = taken_is_replaced
