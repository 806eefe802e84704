use Rattle.std.proofs.Common.{ap, sym, ◌∙◌, subst}
use Rattle.ws_core_tables.specs.Stands.{StandsFor}
use Rattle.std.specs.Prelude.{is_some}
use Rattle.ws_core_tables.proofs.Lookups.{version_is}
use Rattle.ws_core_tables.proofs.tables.Tables.has_version.Goals as goal

pub returns : goal.returns
returns c =
    record {
      stands = λ h since s. c.is_some.ensures ∙ ap is_some c.latest.ensures.latest ∙ version_is h c.self.inside.topics c.args.topic.now (subst (StandsFor h since) (sym c.self.view_is) s).topics;
    }
