use Rattle.std.proofs.Common.{true, false, sym, ◌∙◌, arith}
use Rattle.ws_http.proofs.FieldLemmas.{all_here}
use Rattle.ws_http.proofs.head.all_have.Goals as goal

pub returns-then-is_other : goal.returns-then-is_other
returns-then-is_other c =
    let here = all_here c.args.buf.now c.args.name.now c.args.headers.now c.loop-header.header-index _ (omega arith)
    c.args.value.now true (sym c.is_other.ensures ∙ c.if-is_other.true) in
    sym here ∙ c.loop-header.invariant

pub loop-header-preserved : goal.loop-header-preserved
loop-header-preserved c =
    let here = all_here c.args.buf.now c.args.name.now c.args.headers.now c.loop-header.header-index _ (omega arith)
    c.args.value.now false (sym c.is_other.ensures ∙ c.if-is_other.false) in
    sym here ∙ c.loop-header.invariant
