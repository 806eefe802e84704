use Rattle.std.proofs.Common.{ap, sym, ◌∙◌, subst}
use Rattle.std.specs.Prelude.{◌==◌}
use Rattle.std.specs.List.{IsDistinct}
use Rattle.ws_delivery.specs.OpenOf.{first_versions, open_versions}
use Rattle.ws_delivery.proofs.OpenVersions.{distinct_open, first_are}
use Rattle.ws_delivery.proofs.RowsByKey.{ascends}
use Rattle.ws_delivery.proofs.open_pairs.OpenPairs.open_of.Goals as goal

pub returns-clause-value : goal.returns-clause-value
returns-clause-value c =
    c.of.ensures
    ∙ ap (first_versions c.args.lease) (c.range.ensures.between tt)
    ∙ first_are c.args.lease c.self.inside.pairs.entries (ascends c.self.inside.pairs.entries c.range.ensures.ordered)
    ∙ ap (open_versions c.args.lease) c.self.view_is

pub returns-clause-distinct : goal.returns-clause-distinct
returns-clause-distinct c =
    subst (IsDistinct (λ x y. x == y))
    (sym (c.of.ensures ∙ ap (first_versions c.args.lease) (c.range.ensures.between tt) ∙ first_are c.args.lease c.self.inside.pairs.entries (ascends c.self.inside.pairs.entries c.range.ensures.ordered)))
    (distinct_open c.args.lease c.self.inside.pairs.entries (ascends c.self.inside.pairs.entries c.range.ensures.ordered))
