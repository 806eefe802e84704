use Rattle.std.proofs.Common.{◌≡◌, ap, cond, refl, subst, sym, ◌∙◌}
use Rattle.std.proofs.lemmas.Result.{on_ok_weaker}
use Rattle.ws_topic.specs.Rows.{Rows}
use Rattle.ws_topic.specs.Stands.{StandsFor}
use Rattle.ws_topic.proofs.Changes.{pinged_stands}
use Rattle.ws_topic.proofs.table.Topics.pinged.Goals as goal

pub returns-clause-stands : goal.returns-clause-stands
returns-clause-stands c =
    on_ok_weaker c.ping.result
    (λ look h e s l is at. pinged_stands (record { versions = c.self.inside.versions.versions; latest = c.self.inside.versions.latest; fetches = c.self.inside.fetches }) (record { versions = c.self.inside.versions.versions; latest = c.self.inside.versions.latest; fetches = c.ping.new.self }) c.args.topic.now c.args.serial refl refl look
    h e (subst (λ (r : Rows). StandsFor r h) (sym c.self.view_is) s) l is at)
    c.ping.ensures.look
