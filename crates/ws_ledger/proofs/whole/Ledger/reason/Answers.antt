use Rattle.std.proofs.Common.{sym, subst}
use Rattle.ws_ledger.specs.Stands.{StandsFor}
use Rattle.ws_ledger.proofs.whole.Ledger.reason.Goals as goal

pub returns : goal.returns
returns c = record { stands = λ h since s. c.reason.ensures.stands h since (subst (StandsFor h since) (sym c.self.view_is) s).tables }
