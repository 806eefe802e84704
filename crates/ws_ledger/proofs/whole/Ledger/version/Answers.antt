use Rattle.std.proofs.Common.{sym, subst}
use Rattle.ws_ledger.specs.Stands.{StandsFor}
use Rattle.ws_ledger.proofs.whole.Ledger.version.Goals as goal

pub returns : goal.returns
returns c =
    record {
      stands = λ h since s. c.version.ensures.stands h since (subst (StandsFor h since) (sym c.self.view_is) s).tables;
      owed = λ h since t s k o. c.version.ensures.owed h since t (subst (StandsFor h since) (sym c.self.view_is) s).tables k o;
    }
