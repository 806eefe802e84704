use Rattle.std.proofs.Common.{ap, arith, length, length-take}
use Rattle.ws_http.proofs.chunk.trailer.Goals as goal

pub returns-in-Whole-clause-within : goal.returns-in-Whole-clause-within
returns-in-Whole-clause-within c =
    omega (arith, c.in-Whole.ensures.4, ap length c.front_of.ensures.value, length-take 16384 c.args.after.now)
