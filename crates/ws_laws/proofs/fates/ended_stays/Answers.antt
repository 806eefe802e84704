use Rattle.ws_laws.proofs.Ended.{ended_stays}
use Rattle.ws_laws.proofs.fates.ended_stays.Goals as goal

pub returns : goal.returns
returns c = ended_stays
