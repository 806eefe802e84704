use Rattle.std.proofs.Common.{[]}
use Rattle.ws_http.specs.ResponseStages.{fresh_reply}
use Rattle.ws_http.proofs.ReplyPieceLemmas.{in_pieces, from_fresh}
use Rattle.ws_http.proofs.laws.response_in_any_pieces.Goals as goal

pub returns : goal.returns
returns c need steps f = in_pieces [] (fresh_reply need) steps (λ _. from_fresh need) f
