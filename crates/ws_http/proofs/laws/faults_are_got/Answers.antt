use Rattle.ws_http.proofs.ReplyPieceLemmas.{fault_got}
use Rattle.ws_http.proofs.laws.faults_are_got.Goals as goal

pub returns : goal.returns
returns c = fault_got
