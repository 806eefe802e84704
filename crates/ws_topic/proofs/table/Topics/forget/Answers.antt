use Rattle.std.proofs.Common.{◌≡◌, ap, cond, refl, subst, sym, ◌∙◌}
use Rattle.std.proofs.lemmas.Result.{on_ok_weaker}
use Rattle.ws_topic.specs.Rows.{Rows}
use Rattle.ws_topic.specs.Stands.{StandsFor}
use Rattle.ws_topic.proofs.Changes.{forget_stands}
use Rattle.ws_topic.proofs.table.Topics.forget.Goals as goal

pub returns-clause-stands : goal.returns-clause-stands
returns-clause-stands c = λ h s.
    forget_stands (record { versions = c.self.inside.versions.versions; latest = c.self.inside.versions.latest; fetches = c.self.inside.fetches }) (record { versions = c.forget.new.self.versions; latest = c.forget.new.self.latest; fetches = c.self.inside.fetches }) c.args.ver c.forget.ensures.look c.forget.ensures.latest refl
    h (subst (λ (r : Rows). StandsFor r h) (sym c.self.view_is) s)
