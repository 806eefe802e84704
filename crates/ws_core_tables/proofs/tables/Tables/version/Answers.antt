use Rattle.std.proofs.Common.{ap, sym, subst, ◌∙◌}
use Rattle.std.specs.Prelude.{is_some}
use Rattle.ws_core_tables.specs.Stands.{StandsFor}
use Rattle.ws_core_tables.proofs.HeldBodies.{latest_one_held, owed_held}
use Rattle.ws_core_tables.proofs.Lookups.{is_some-copied}
use Rattle.ws_core_tables.proofs.tables.Tables.version.Goals as goal

pub returns-clause-owed : goal.returns-clause-owed
returns-clause-owed c h since t s k o =
    is_some-copied c.version.result
    ∙ ap is_some c.version.ensures.version
    ∙ owed_held h since t _ (subst (StandsFor h since) (sym c.self.view_is) s) k c.args.ver o

pub returns-clause-latest : goal.returns-clause-latest
returns-clause-latest c h since s k =
    is_some-copied c.version.result
    ∙ ap is_some c.version.ensures.version
    ∙ latest_one_held h since _ (subst (StandsFor h since) (sym c.self.view_is) s) c.args.ver k
