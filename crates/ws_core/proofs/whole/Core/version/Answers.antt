use Rattle.std.proofs.Common.{sym, subst}
use Rattle.ws_core.specs.Stands.{StandsFor}
use Rattle.ws_core.proofs.whole.Core.version.Goals as goal

pub returns : goal.returns
returns c = record { stands = λ h since s. c.version.ensures.stands h since (subst (StandsFor h since) (sym c.self.view_is) s).ledger; owed = λ h since t s k o. c.version.ensures.owed h since t (subst (StandsFor h since) (sym c.self.view_is) s).ledger k o }
