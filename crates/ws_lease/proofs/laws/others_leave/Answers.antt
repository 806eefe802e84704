use Rattle.ws_lease.proofs.WhichEvents.{others_leave}
use Rattle.ws_lease.proofs.laws.others_leave.Goals as goal

pub returns : goal.returns
returns c = others_leave
