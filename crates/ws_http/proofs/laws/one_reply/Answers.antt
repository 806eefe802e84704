use Rattle.ws_http.proofs.OneReplyLemmas.{reply_one}
use Rattle.ws_http.proofs.laws.one_reply.Goals as goal

pub returns : goal.returns
returns c = reply_one
