use Rattle.std.proofs.Common.{arith, rules}
use Rattle.ws_http.proofs.HeadLemmas.{section_fits}
use Rattle.ws_http.proofs.chunk.read_section.Goals as goal

pub unreachable-requires : goal.unreachable-requires
unreachable-requires c = section_fits c.args.front.now _ c.requires (omega arith) (c.in-Err-TooManyHeaders.ensures.too_many (search rules))
