use Rattle.std.proofs.Common.{ap, ◌∙◌, refl, arith, [], Some}
use Rattle.ws_http.proofs.ReplyStageLemmas.{start_small, declared_long, fixed_judged, fixed_closes, lasting_judged, lasting_closes}
use Rattle.ws_http.proofs.reply_stage.read_sized.Goals as goal

pub overflow_add-head : goal.overflow_add-head
overflow_add-head c = let r = c.requires.heads in omega (arith, (start_small c.args.raw.now c.args.head r.0 r.1).0)

pub read_lasting-requires : goal.read_lasting-requires
read_lasting-requires c = let r = c.requires.heads in (start_small c.args.raw.now c.args.head r.0 r.1).1

pub returns-then-length-clause-judged : goal.returns-then-length-clause-judged
returns-then-length-clause-judged c plain body =
    let r = c.requires.heads in
    declared_long c.args.need c.args.raw.now body c.args.over c.args.head r.0 c.in-Fixed.length c.requires.asks r.1 (r.2 ∙ ap Some c.in-Fixed.is) (omega arith)

pub returns-else-length-clause-judged : goal.returns-else-length-clause-judged
returns-else-length-clause-judged c plain body =
    let r = c.requires.heads in
    fixed_judged c.args.need c.args.raw.now body c.args.over c.args.head r.0 c.in-Fixed.length _ c.requires.asks r.1
    (r.2 ∙ ap Some c.in-Fixed.is) refl (omega arith) _ c.read_fixed.ensures

pub returns-else-length-clause-closes : goal.returns-else-length-clause-closes
returns-else-length-clause-closes c plain over =
    let r = c.requires.heads in
    fixed_closes c.args.need c.args.raw.now [] c.args.over c.args.head r.0 c.in-Fixed.length _ c.requires.asks r.1
    (r.2 ∙ ap Some c.in-Fixed.is) refl (omega arith) _ c.read_fixed.ensures (c.requires.full over)

pub returns-in-Lasting-clause-judged : goal.returns-in-Lasting-clause-judged
returns-in-Lasting-clause-judged c plain body =
    let r = c.requires.heads in
    lasting_judged c.args.need c.args.raw.now body c.args.over c.args.head r.0 c.requires.asks r.1 (r.2 ∙ ap Some c.in-Lasting.is) _ c.read_lasting.ensures

pub returns-in-Lasting-clause-closes : goal.returns-in-Lasting-clause-closes
returns-in-Lasting-clause-closes c plain over =
    let r = c.requires.heads in
    lasting_closes c.args.need c.args.raw.now [] c.args.over c.args.head r.0 c.requires.asks r.1 (r.2 ∙ ap Some c.in-Lasting.is) _ c.read_lasting.ensures
    (c.requires.full over)
