use Rattle.std.proofs.Common.{◌≡◌, ap, cond, refl, subst, sym, ◌∙◌}
use Rattle.std.proofs.lemmas.Result.{on_ok_weaker}
use Rattle.ws_topic.specs.Rows.{Rows}
use Rattle.ws_topic.specs.Stands.{StandsFor}
use Rattle.ws_topic.proofs.Changes.{same_stands}
use Rattle.ws_topic.proofs.table.Topics.same.Goals as goal

pub returns-clause-stands : goal.returns-clause-stands
returns-clause-stands c = λ h e s l is.
    same_stands (record { versions = c.self.inside.versions.versions; latest = c.self.inside.versions.latest; fetches = c.self.inside.fetches }) (record { versions = c.self.inside.versions.versions; latest = c.self.inside.versions.latest; fetches = c.answer.new.self }) c.args.topic.now c.args.upto refl refl c.answer.ensures.look
    h e (subst (λ (r : Rows). StandsFor r h) (sym c.self.view_is) s) l is
