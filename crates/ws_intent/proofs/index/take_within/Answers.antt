use Rattle.std.proofs.Common.{refl, false}
use Rattle.ws_intent.proofs.Keyed.{in_updates}
use Rattle.ws_intent.proofs.index.take_within.Goals as goal

pub returns-in-Some-clause-taken : goal.returns-in-Some-clause-taken
returns-in-Some-clause-taken c =
    in_updates c.args.topic.now c.args.callback.now c.args.index.now (c.get_mut.follows.lender c.remove_at.new.of_topic) c.in-Some.of_topic.now c.remove_at.new.of_topic c.args.n false
    c.in-Some.ensures.value ((c.get_mut.follows.holds c.remove_at.new.of_topic).3 (rw (← c.in-Some.ensures.value) refl)) c.remove_at.ensures
