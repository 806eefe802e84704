use Rattle.ws_http.proofs.StayLemmas.{final_stays}
use Rattle.ws_http.proofs.laws.final_verdict_stays.Goals as goal

pub returns : goal.returns
returns c = final_stays
