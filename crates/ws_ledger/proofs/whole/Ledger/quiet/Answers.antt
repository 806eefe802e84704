use Rattle.std.proofs.Common.{sym, subst}
use Rattle.ws_ledger.specs.Stands.{StandsFor}
use Rattle.ws_ledger.proofs.Going.{goes_on_quiet}
use Rattle.ws_ledger.proofs.whole.Ledger.quiet.Goals as goal

pub returns-clause-ok : goal.returns-clause-ok
returns-clause-ok c h since s l k =
    let inside = subst (StandsFor h since) (sym c.self.view_is) s in
    goes_on_quiet c.args.event.now h since _ c.apply.new.self inside l k c.requires.quiet (c.in_ok-apply.ensures.ok h since inside.tables l k)
