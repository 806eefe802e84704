use Rattle.std.proofs.Common.{◌++◌, [], true}
use Rattle.ws_http.proofs.ReplyStageLemmas.{fixed_judged, fixed_closes, lasting_judged, lasting_closes}
use Rattle.ws_http.proofs.reply_tail.read_apart.Goals as goal

pub returns-in-Fixed-clause-judged : goal.returns-in-Fixed-clause-judged
returns-in-Fixed-clause-judged c over body =
    let r = rw c.in-Fixed.is at c.requires.ready.1 in
    fixed_judged c.args.need (c.args.raw.now ++ c.args.tail.now) body over c.in-Fixed.head r.0 r.1 c.in-Fixed.total r.6 r.2 r.3 r.4 r.5 _
    (rw c.count-came.ensures at c.read_fixed.ensures)

pub returns-in-Fixed-clause-closes : goal.returns-in-Fixed-clause-closes
returns-in-Fixed-clause-closes c full =
    let r = rw c.in-Fixed.is at c.requires.ready.1 in
    fixed_closes c.args.need (c.args.raw.now ++ c.args.tail.now) [] true c.in-Fixed.head r.0 r.1 c.in-Fixed.total r.6 r.2 r.3 r.4 r.5 _
    (rw c.count-came.ensures at c.read_fixed.ensures) full

pub returns-in-Lasting-clause-judged : goal.returns-in-Lasting-clause-judged
returns-in-Lasting-clause-judged c over body =
    let r = rw c.in-Lasting.is at c.requires.ready.1 in
    lasting_judged c.args.need (c.args.raw.now ++ c.args.tail.now) body over c.in-Lasting.head r.0 r.3 r.1 r.2 _
    (rw c.count-came.ensures at c.read_lasting.ensures)

pub returns-in-Lasting-clause-closes : goal.returns-in-Lasting-clause-closes
returns-in-Lasting-clause-closes c full =
    let r = rw c.in-Lasting.is at c.requires.ready.1 in
    lasting_closes c.args.need (c.args.raw.now ++ c.args.tail.now) [] true c.in-Lasting.head r.0 r.3 r.1 r.2 _
    (rw c.count-came.ensures at c.read_lasting.ensures) full
