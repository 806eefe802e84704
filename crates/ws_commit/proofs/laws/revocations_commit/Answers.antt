use Rattle.ws_commit.proofs.Answered.{revocations_commit}
use Rattle.ws_commit.proofs.laws.revocations_commit.Goals as goal

pub returns : goal.returns
returns c = revocations_commit
