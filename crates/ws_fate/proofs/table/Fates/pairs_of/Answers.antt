use Rattle.std.proofs.Common.{ap, ◌∙◌}
use Rattle.std.specs.Prelude.{filter, ◌==◌}
use Rattle.ws_fate.proofs.Keyed.{of_lease}
use Rattle.ws_fate.proofs.table.Fates.pairs_of.Goals as goal

pub returns : goal.returns
returns c = c.range.ensures.between tt ∙ of_lease c.args.lease c.self.inside.by_pair.entries ∙ ap (λ s. filter (λ e. e.0.0 == c.args.lease) s.pairs) c.self.view_is
