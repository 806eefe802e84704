use Rattle.std.proofs.Common.{ap, ◌∙◌}
use Rattle.ws_model.specs.Fate.{Pair, fate}
use Rattle.ws_plain.specs.Capped.{capped}
use Rattle.ws_plain.specs.Past.{past}
use Rattle.ws_plain.proofs.pair.Pair.fate.Goals as goal

pub returns : goal.returns
returns c = c.fate.ensures ∙ ap (λ (p : Pair). capped (fate (past c.args.events.now) p c.args.t)) c.self.view_is
