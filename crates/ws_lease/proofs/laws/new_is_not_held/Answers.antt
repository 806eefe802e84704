use Rattle.ws_lease.proofs.WhichEvents.{new_is_not_held}
use Rattle.ws_lease.proofs.laws.new_is_not_held.Goals as goal

pub returns : goal.returns
returns c = new_is_not_held
