use Rattle.std.proofs.Common.{◌++◌, length-append, arith}
use Rattle.ws_script.proofs.Known.{Consumes-then}
use Rattle.ws_script.proofs.Reading.{stopped_bytes}
use Rattle.ws_script.proofs.take.take_bytes.Goals as goal

pub returns-in_err-take_piece-clause-bytes : goal.returns-in_err-take_piece-clause-bytes
returns-in_err-take_piece-clause-bytes g c =
    let at = c.loop-bytes.invariant in
    let piece = c.in_err-take_piece.ensures.piece in
    stopped_bytes _ c.args.size _ _ (c.loop-bytes.bytes.items ++ piece.0) c.from_residual.result c.from_residual.ensures.1
    (Consumes-then _ _ _ _ _ at.taken piece.1) (omega (arith, piece.2, length-append c.loop-bytes.bytes.items piece.0))
