use Rattle.std.proofs.Common.{true, false, sym, ◌∙◌, arith}
use Rattle.ws_http.proofs.ExtentLemmas.{lengths_here}
use Rattle.ws_http.proofs.extent.all_are_length.Goals as goal

pub returns-then-is_other : goal.returns-then-is_other
returns-then-is_other c =
    let here = lengths_here c.args.buf.now c.args.headers.now c.loop-header.header-index _ (omega arith)
    c.args.number true (sym c.is_other.ensures ∙ c.if-is_other.true) in
    sym here ∙ c.loop-header.invariant

pub loop-header-preserved : goal.loop-header-preserved
loop-header-preserved c =
    let here = lengths_here c.args.buf.now c.args.headers.now c.loop-header.header-index _ (omega arith)
    c.args.number false (sym c.is_other.ensures ∙ c.if-is_other.false) in
    sym here ∙ c.loop-header.invariant
