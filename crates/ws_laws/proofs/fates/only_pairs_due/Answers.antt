use Rattle.ws_laws.proofs.DueWork.{only_pairs_due}
use Rattle.ws_laws.proofs.fates.only_pairs_due.Goals as goal

pub returns : goal.returns
returns c = only_pairs_due
