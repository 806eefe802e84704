use Rattle.std.proofs.Common.{true, false, sym, ap, ◌∙◌, arith, Some}
use Rattle.ws_http.proofs.FieldLemmas.{first_here}
use Rattle.ws_http.proofs.head.first_named.Goals as goal

pub returns-then-is_called : goal.returns-then-is_called
returns-then-is_called c =
    let here = first_here c.args.buf.now c.args.name.now c.args.headers.now c.loop-header.header-index _ (omega arith)
    true (sym c.is_called.ensures ∙ c.if-is_called.true) in
    ap Some c.of.ensures ∙ sym here ∙ c.loop-header.invariant

pub loop-header-preserved : goal.loop-header-preserved
loop-header-preserved c =
    let here = first_here c.args.buf.now c.args.name.now c.args.headers.now c.loop-header.header-index _ (omega arith)
    false (sym c.is_called.ensures ∙ c.if-is_called.false) in
    sym here ∙ c.loop-header.invariant
