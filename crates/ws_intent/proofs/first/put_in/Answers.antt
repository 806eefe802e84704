use Rattle.std.proofs.Common.{◌∙◌, sym}
use Rattle.ws_intent.proofs.Rises.{entered}
use Rattle.ws_intent.proofs.first.put_in.Goals as goal

pub returns-then-not-contains-clause-rising : goal.returns-then-not-contains-clause-rising
returns-then-not-contains-clause-rising c = (entered c.args.numbers.now c.put.new.self c.args.m c.requires.rising (sym c.contains.ensures ∙ c.if-not-contains.true) c.put.ensures).rising

pub returns-then-not-contains-clause-numbers : goal.returns-then-not-contains-clause-numbers
returns-then-not-contains-clause-numbers c = (entered c.args.numbers.now c.put.new.self c.args.m c.requires.rising (sym c.contains.ensures ∙ c.if-not-contains.true) c.put.ensures).has
