use Rattle.std.proofs.Common.{subst, sym, Some, ◌≡◌}
use Rattle.std.specs.Prelude.{IfSome, find, ◌==◌}
use Rattle.ws_model.specs.declared.event.Version.{Version}
use Rattle.ws_model.specs.Versions.{versions}
use Rattle.ws_topic.specs.Rows.{Rows}
use Rattle.ws_topic.specs.Stands.{StandsFor}
use Rattle.ws_topic.proofs.table.Topics.version.Goals as goal

pub returns-clause-stands : goal.returns-clause-stands
returns-clause-stands c = λ h s.
    subst (λ o. IfSome o (λ (v : Version). find (λ w. w.ver == c.args.ver) (versions h) ≡ Some v)) (sym c.get.ensures)
    ((subst (λ (r : Rows). StandsFor r h) (sym c.self.view_is) s).kept c.args.ver)
