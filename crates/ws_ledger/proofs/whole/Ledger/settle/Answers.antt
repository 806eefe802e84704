use Rattle.std.proofs.Common.{sym, subst}
use Rattle.ws_ledger.specs.Stands.{StandsFor}
use Rattle.ws_ledger.proofs.whole.Ledger.settle.Goals as goal

pub returns : goal.returns
returns c = record { stands = λ h since link s l k pending own. c.settle.ensures.stands h since link (subst (StandsFor h since) (sym c.self.view_is) s).tables l k (c.fate_by_work-fate.ensures.stands h since s l k pending) own }
