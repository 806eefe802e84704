use Rattle.std.proofs.Common.{arith, rules}
use Rattle.ws_http.proofs.HeadLemmas.{response_fits}
use Rattle.ws_http.proofs.reply_head.parse_reply.Goals as goal

pub unreachable-requires : goal.unreachable-requires
unreachable-requires c = response_fits c.args.front.now _ c.requires.short (omega arith) (c.in-Err-TooManyHeaders.ensures.too_many (search rules))
