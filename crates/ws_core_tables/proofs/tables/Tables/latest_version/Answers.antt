use Rattle.std.proofs.Common.{sym, subst, ◌∙◌}
use Rattle.ws_core_tables.specs.Stands.{StandsFor}
use Rattle.ws_core_tables.proofs.HeldBodies.{latest_there, no_latest}
use Rattle.ws_core_tables.proofs.tables.Tables.latest_version.Goals as goal

pub returns-in-Some : goal.returns-in-Some
returns-in-Some c =
    record {
      stands = λ h since s.
          let inside = subst (StandsFor h since) (sym c.self.view_is) s in
          c.version.ensures.version ∙ latest_there h c.self.inside.topics c.args.topic.now c.in-Some.ver inside.topics (c.in-Some.ensures.stands h inside.topics);
    }

pub returns-in-None : goal.returns-in-None
returns-in-None c =
    record {
      stands = λ h since s. no_latest h c.args.topic.now (c.in-None.ensures.stands h (subst (StandsFor h since) (sym c.self.view_is) s).topics);
    }
