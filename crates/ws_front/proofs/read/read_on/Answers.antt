use Rattle.std.proofs.Common.{arith}
use Rattle.ws_front.proofs.Reading.{started, goes_on_with, shrinks, finds, cuts, finds_none, fails, reads_err}
use Rattle.ws_front.proofs.read.read_on.Goals as goal

pub pieces-init : goal.pieces-init
pieces-init g c = record {
  so_far = λ first o. started first c.args.reader.now (g.S.Source.left c.args.source.now) c.headed-came.result o c.headed-came.ensures;
  later = omega arith;
}

pub pieces-preserved : goal.pieces-preserved
pieces-preserved g c =
    let p = rw c.in-Some.is at c.in_ok-fed.ensures.piece in
    record {
      so_far = λ first o. goes_on_with _ _ _ _ _ _ (c.pieces.invariant.so_far first o) _ _ _ p c.in-More.is;
      later = omega (arith, c.pieces.invariant.later, c.take_piece.ensures.cause.later);
    }

pub pieces-smaller : goal.pieces-smaller
pieces-smaller g c =
    let p = rw c.in-Some.is at c.in_ok-fed.ensures.piece in
    shrinks _ _ _ _ _ _ (c.pieces.invariant.so_far c.requires.0 c.requires.1) _ _ _ p c.in-More.is

pub returns-in_default-clause-reads : goal.returns-in_default-clause-reads
returns-in_default-clause-reads g c first o =
    let p = rw c.in-Some.is at c.in_ok-fed.ensures.piece in finds _ _ _ _ _ _ (c.pieces.invariant.so_far first o) _ _ _ p c.in_default.not-More

pub returns-in-None-clause-reads : goal.returns-in-None-clause-reads
returns-in-None-clause-reads g c first o =
    let p = rw c.in-None.is at c.in_ok-fed.ensures.piece in
    cuts _ _ _ _ _ _ (c.pieces.invariant.so_far first o) _ p.1 c.if-came.true p.2

pub returns-in_err-fed-clause-reads : goal.returns-in_err-fed-clause-reads
returns-in_err-fed-clause-reads g c first o =
    reads_err first c.args.reader.now c.take_piece.new.reader _ _ c.from_residual.result c.from_residual.ensures.1
    (fails _ _ _ _ _ _ (c.pieces.invariant.so_far first o) _ c.in_err-fed.ensures.piece.1)

pub returns-in-None-2-clause-reads : goal.returns-in-None-2-clause-reads
returns-in-None-2-clause-reads g c first o =
    let p = rw c.in-None.is at c.in_ok-fed.ensures.piece in
    finds_none _ _ _ _ _ _ (c.pieces.invariant.so_far first o) _ p.1 c.if-came.false p.2
