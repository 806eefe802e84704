use Rattle.std.proofs.Common.{arith, rules}
use Rattle.ws_http.proofs.HeadLemmas.{request_fits}
use Rattle.ws_http.proofs.head.parse.Goals as goal

pub unreachable-requires : goal.unreachable-requires
unreachable-requires c = request_fits c.args.front.now _ c.requires.short (omega arith) (c.in-Err-TooManyHeaders.ensures.too_many (search rules))
