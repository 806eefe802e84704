use Rattle.std.proofs.Common.{◌∙◌}
use Rattle.ws_intent.proofs.Keyed.{at_emptied}
use Rattle.ws_intent.proofs.index.remove_at.Goals as goal

pub returns-then-take_at : goal.returns-then-take_at
returns-then-take_at c = λ b q.
    at_emptied c.args.callback.now c.take_at.new.of_topic c.remove.new.self c.remove.ensures.updates (c.take_at.ensures.none c.if-take_at.true) b q
    ∙ c.take_at.ensures.taken b q
