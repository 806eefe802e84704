use Rattle.std.proofs.Common.{sym}
use Rattle.ws_http.proofs.ReplyTailLemmas.{apart_inside}
use Rattle.ws_http.proofs.reply_tail.part.Goals as goal

pub cut-requires-clause-inside : goal.cut-requires-clause-inside
cut-requires-clause-inside c =
    apart_inside c.args.need c.args.raw.now.items c.requires.ready.0 c.args.stage c.in-Some.start (sym c.in-Some.ensures) c.requires.ready.1
