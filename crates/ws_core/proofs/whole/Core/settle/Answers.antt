use Rattle.std.proofs.Common.{sym, subst}
use Rattle.ws_core.specs.Stands.{StandsFor}
use Rattle.ws_core.proofs.whole.Core.settle.Goals as goal

pub returns : goal.returns
returns c = record { stands = λ h since link s l k pending own. c.settle.ensures.stands h since link (subst (StandsFor h since) (sym c.self.view_is) s).ledger l k pending own }
