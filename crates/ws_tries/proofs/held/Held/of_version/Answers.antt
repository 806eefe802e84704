use Rattle.std.proofs.Common.{◌∙◌}
use Rattle.std.specs.Prelude.{filter, ◌==◌}
use Rattle.ws_tries.proofs.Keyed.{of_version}
use Rattle.ws_tries.proofs.held.Held.of_version.Goals as goal

pub returns : goal.returns
returns c = c.range.ensures.between tt ∙ of_version c.args.ver c.self.inside.by_pair.entries ∙ (λ j. filter (λ e. e.0.0 == c.args.ver) (c.self.view_is j))
