use Rattle.std.proofs.Common.{sym, subst}
use Rattle.ws_core.specs.Stands.{StandsFor}
use Rattle.ws_core.proofs.whole.Core.due.Goals as goal

pub returns : goal.returns
returns c = record { stands = λ h since s l k. c.due.ensures.stands h since (subst (StandsFor h since) (sym c.self.view_is) s).ledger l k }
