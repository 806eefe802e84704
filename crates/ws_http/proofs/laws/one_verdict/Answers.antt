use Rattle.ws_http.proofs.OneRequestLemmas.{request_one}
use Rattle.ws_http.proofs.laws.one_verdict.Goals as goal

pub returns : goal.returns
returns c = request_one
