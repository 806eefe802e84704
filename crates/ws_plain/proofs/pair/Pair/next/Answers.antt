use Rattle.std.proofs.Common.{ap, ◌∙◌}
use Rattle.ws_model.specs.Fate.{next}
use Rattle.ws_plain.specs.Past.{past}
use Rattle.ws_plain.proofs.pair.Pair.next.Goals as goal

pub returns : goal.returns
returns c = c.next.ensures ∙ ap (next (past c.args.events.now)) c.self.view_is
