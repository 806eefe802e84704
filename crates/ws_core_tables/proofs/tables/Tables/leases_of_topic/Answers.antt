use Rattle.std.proofs.Common.{sym, subst}
use Rattle.ws_core_tables.specs.Stands.{StandsFor}
use Rattle.ws_core_tables.proofs.tables.Tables.leases_of_topic.Goals as goal

pub returns-clause-stands : goal.returns-clause-stands
returns-clause-stands c h since s l k =
    let inside = subst (StandsFor h since) (sym c.self.view_is) s in
    c.live_of_topic.ensures.stands h since l inside.leases k
