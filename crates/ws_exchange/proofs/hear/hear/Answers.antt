use Rattle.std.proofs.Common.{◌++◌, ap, sym, subst}
use Rattle.ws_model.specs.declared.work.Outcome.{Outcome}
use Rattle.ws_exchange.specs.Ends.{Ends}
use Rattle.ws_exchange.proofs.Heard.{is_more, feed_more, feed_whole, feed_reply, feed_fault}
use Rattle.ws_exchange.proofs.hear.hear.Goals as goal

pub into_reply-requires : goal.into_reply-requires
into_reply-requires c =
    feed_whole c.args.reader c.feed.new.self c.args.piece.now c.args.end c.feed.result c.feed.ensures.feeds c.requires.2
    c.in-Whole.used c.in-Whole.is c.requires.0 c.requires.1

pub returns-in-More : goal.returns-in-More
returns-in-More c =
    feed_more c.args.reader c.feed.new.self c.args.piece.now c.args.end c.feed.result c.feed.ensures.feeds c.requires.2 (ap is_more c.in-More.is)

pub returns-in-Head : goal.returns-in-Head
returns-in-Head c =
    feed_more c.args.reader c.feed.new.self c.args.piece.now c.args.end c.feed.result c.feed.ensures.feeds c.requires.2 (ap is_more c.in-Head.is)

pub returns-in-Ok : goal.returns-in-Ok
returns-in-Ok c =
    feed_reply c.args.reader c.feed.new.self c.args.piece.now c.args.end c.feed.result c.feed.ensures.feeds c.requires.2
    c.in-Whole.used c.in-Ok.reply c.in-Whole.is c.in-Ok.ensures.got c.in-Ok.ensures.fit

pub returns-in-Bad : goal.returns-in-Bad
returns-in-Bad c came stands =
    subst (λ (o : Outcome). Ends c.args.reader.need (came ++ c.args.piece.now) c.args.end o) (sym c.outcome_of.ensures)
    (feed_fault c.args.reader c.feed.new.self c.args.piece.now c.args.end c.feed.result c.feed.ensures.feeds c.requires.2
    c.in-Bad.why c.in-Bad.is came stands)
