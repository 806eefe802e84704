use Rattle.ws_laws.proofs.Paired.{one_fate}
use Rattle.ws_laws.proofs.fates.one_fate.Goals as goal

pub returns : goal.returns
returns c = one_fate
