use Rattle.std.proofs.Common.{sym, arith, length-take-le}
use Rattle.std.proofs.lemmas.List.{take_all}
use Rattle.ws_http.proofs.head.front_of.Goals as goal

pub slice_bounds-result-end : goal.slice_bounds-result-end
slice_bounds-result-end c = sym (length-take-le 16384 c.args.bytes.now (omega arith))

pub returns-else-bytes-gt-MAX_HEAD-clause-value : goal.returns-else-bytes-gt-MAX_HEAD-clause-value
returns-else-bytes-gt-MAX_HEAD-clause-value c = sym (take_all 16384 c.args.bytes.now (omega arith))

pub returns-then-bytes-gt-MAX_HEAD-clause-bound : goal.returns-then-bytes-gt-MAX_HEAD-clause-bound
returns-then-bytes-gt-MAX_HEAD-clause-bound c = omega (arith, length-take-le 16384 c.args.bytes.now (omega arith))
