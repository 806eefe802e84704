use Rattle.std.proofs.Common.{◌∙◌}
use Rattle.ws_intent.proofs.Keyed.{in_emptied}
use Rattle.ws_intent.proofs.index.remove.Goals as goal

pub returns-then-take_within : goal.returns-then-take_within
returns-then-take_within c = λ a b q.
    in_emptied c.args.topic.now c.take_within.new.index c.remove.new.self c.remove.ensures.updates (c.take_within.ensures.none c.if-take_within.true) a b q
    ∙ c.take_within.ensures.taken a b q
