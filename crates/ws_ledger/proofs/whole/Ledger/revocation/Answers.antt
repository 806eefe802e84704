use Rattle.std.proofs.Common.{sym, subst}
use Rattle.ws_ledger.specs.Stands.{StandsFor}
use Rattle.ws_ledger.proofs.whole.Ledger.revocation.Goals as goal

pub returns : goal.returns
returns c = record { stands = λ h since s l k. c.revocation.ensures.stands h since (subst (StandsFor h since) (sym c.self.view_is) s).tables l k }
