use Rattle.ws_laws.proofs.Apart.{one_live}
use Rattle.ws_laws.proofs.fates.one_live.Goals as goal

pub returns : goal.returns
returns c = one_live
