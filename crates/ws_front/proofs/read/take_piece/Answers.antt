use Rattle.std.proofs.Common.{refl, arith}
use Rattle.ws_front.proofs.Known.{Consumes-nothing}
use Rattle.ws_front.proofs.read.take_piece.Goals as goal

pub returns-then-n-eq0-clause-piece : goal.returns-then-n-eq0-clause-piece
returns-then-n-eq0-clause-piece g c =
    (refl, Consumes-nothing _ _ c.in_ok-n.n _ c.if-n-eq0.true c.in_ok-n.ensures.taken, c.in_ok-n.ensures.end c.if-n-eq0.true (omega arith))
