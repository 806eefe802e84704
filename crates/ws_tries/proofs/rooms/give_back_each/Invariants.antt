use Rattle.std.proofs.Common.{drop, None}
use Rattle.ws_tries.proofs.Listed.{AreLeft}
use Rattle.ws_tries.proofs.rooms.give_back_each.Given as goal

abbrev pub invariant-loop-pair : goal.invariant-loop-pair
invariant-loop-pair l = AreLeft None l.pairs (drop l.pair-index l.pairs) l.fn.held l.held
