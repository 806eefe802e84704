use Rattle.std.proofs.Common.{drop, [], Some}
use Rattle.ws_tries.proofs.Listed.{AreLeft}
use Rattle.ws_tries.proofs.rooms.make_each.Given as goal

abbrev pub invariant-loop-pair : goal.invariant-loop-pair
invariant-loop-pair l = AreLeft (Some []) l.pairs (drop l.pair-index l.pairs) l.fn.held l.held
