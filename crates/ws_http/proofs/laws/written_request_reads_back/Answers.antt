use Rattle.ws_http.proofs.ReadBackLemmas.{reads_back}
use Rattle.ws_http.proofs.laws.written_request_reads_back.Goals as goal

pub returns : goal.returns
returns c = reads_back
