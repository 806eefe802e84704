use Rattle.std.proofs.Common.{sym, subst}
use Rattle.ws_ledger.specs.Stands.{StandsFor}
use Rattle.ws_ledger.proofs.whole.Ledger.is_owed.Goals as goal

pub returns : goal.returns
returns c = record { stands = λ h since s k. c.is_owed.ensures.stands h since (subst (StandsFor h since) (sym c.self.view_is) s).tables k }
