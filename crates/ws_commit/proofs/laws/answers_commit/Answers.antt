use Rattle.ws_commit.proofs.Answered.{answers_commit}
use Rattle.ws_commit.proofs.laws.answers_commit.Goals as goal

pub returns : goal.returns
returns c = answers_commit
