use Rattle.ws_http.proofs.OutcomeLemmas.{got_fit}
use Rattle.ws_http.proofs.laws.got_outcomes_are_fit.Goals as goal

pub returns : goal.returns
returns c = got_fit
