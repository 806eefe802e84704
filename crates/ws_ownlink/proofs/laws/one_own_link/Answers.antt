use Rattle.ws_ownlink.proofs.Unique.{one_link}
use Rattle.ws_ownlink.proofs.laws.one_own_link.Goals as goal

pub returns : goal.returns
returns c = one_link
