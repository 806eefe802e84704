use Rattle.std.proofs.Common.{refl, false}
use Rattle.ws_intent.proofs.Keyed.{at_updates}
use Rattle.ws_intent.proofs.index.take_at.Goals as goal

pub returns-in-Some-clause-taken : goal.returns-in-Some-clause-taken
returns-in-Some-clause-taken c =
    at_updates c.args.callback.now c.args.of_topic.now (c.get_mut.follows.lender c.remove.new.self) c.in-Some.numbers.now c.remove.new.self c.args.n false
    c.in-Some.ensures.value ((c.get_mut.follows.holds c.remove.new.self).3 (rw (← c.in-Some.ensures.value) refl)) c.remove.ensures.updates.0
