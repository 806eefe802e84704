use Rattle.std.proofs.Common.{[]}
use Rattle.ws_http.specs.RequestStages.{fresh}
use Rattle.ws_http.proofs.PieceLemmas.{in_pieces, from_fresh}
use Rattle.ws_http.proofs.laws.request_in_any_pieces.Goals as goal

pub returns : goal.returns
returns c room steps least f = in_pieces room least [] (fresh room) steps (from_fresh room) f
