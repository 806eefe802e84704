use Rattle.ws_http.proofs.ReplyStayLemmas.{reply_stays}
use Rattle.ws_http.proofs.laws.final_reply_stays.Goals as goal

pub returns : goal.returns
returns c = reply_stays
