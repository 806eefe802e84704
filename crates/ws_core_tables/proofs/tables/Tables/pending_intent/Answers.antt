use Rattle.std.proofs.Common.{sym, subst}
use Rattle.ws_core_tables.specs.Stands.{StandsFor}
use Rattle.ws_core_tables.proofs.Lookups.{none_waits, waiting_is}
use Rattle.ws_core_tables.proofs.tables.Tables.pending_intent.Goals as goal

pub returns-in-Some : goal.returns-in-Some
returns-in-Some c =
    record {
      stands = λ h since s. waiting_is h c.self.inside.intents c.args.n c.in-Some.waiting.now (subst (StandsFor h since) (sym c.self.view_is) s).intents c.in-Some.ensures;
    }

pub returns-in-None : goal.returns-in-None
returns-in-None c =
    record {
      stands = λ h since s. none_waits h c.self.inside.intents c.args.n (subst (StandsFor h since) (sym c.self.view_is) s).intents c.in-None.ensures;
    }
