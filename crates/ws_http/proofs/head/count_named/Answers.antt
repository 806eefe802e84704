use Rattle.std.proofs.Common.{true, false, sym, ◌∙◌, arith}
use Rattle.ws_http.proofs.FieldLemmas.{one_more}
use Rattle.ws_http.proofs.head.count_named.Goals as goal
use Rattle.ws_http.proofs.head.count_named.Goals.{then-is_called, else-is_called}

pub loop-header-preserved : goal.loop-header-preserved
loop-header-preserved c =
    let more = one_more c.args.buf.now c.args.name.now c.args.headers.now c.loop-header.header-index _ (omega arith) in
    elim c.if-is_called.branch [
      | then-is_called w ↦ let e = more true (sym c.is_called.ensures ∙ w.if-is_called.true) in (omega arith, omega arith)
      | else-is_called w ↦ let e = more false (sym c.is_called.ensures ∙ w.if-is_called.false) in (omega arith, omega arith)
    ]
