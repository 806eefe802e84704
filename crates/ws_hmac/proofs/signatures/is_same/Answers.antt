use Rattle.std.proofs.Common.{arith, ◌∙◌}
use Rattle.ws_hmac.proofs.Comparison.{compared, compared_all}
use Rattle.ws_hmac.proofs.signatures.is_same.Goals as goal

pub loop-i-preserved : goal.loop-i-preserved
loop-i-preserved c =
    compared c.loop-i.difference c.loop-i.i c.args.found.now c.args.wanted.now c.loop-i-test.true (omega arith)
    ∙ c.loop-i.invariant

pub returns : goal.returns
returns c =
    compared_all c.loop-i.difference c.loop-i.i c.args.found.now c.args.wanted.now c.loop-i-test.false (omega arith)
    ∙ c.loop-i.invariant
