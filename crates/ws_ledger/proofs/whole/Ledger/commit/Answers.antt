use Rattle.std.proofs.Common.{sym, subst}
use Rattle.ws_ledger.specs.Stands.{StandsFor}
use Rattle.ws_ledger.proofs.Together.{all_go_on}
use Rattle.ws_ledger.proofs.whole.Ledger.commit.Goals as goal

pub returns-clause-ok : goal.returns-clause-ok
returns-clause-ok c h since s l k =
    let inside = subst (StandsFor h since) (sym c.self.view_is) s in
    all_go_on c.args.t c.args.whats.items h since _ c.commit.new.self inside l k c.requires.quiet (c.in_ok-events.ensures.ok h since inside.tables l k)

pub returns-clause-events : goal.returns-clause-events
returns-clause-events c h since s = c.in_ok-events.ensures.events h since (subst (StandsFor h since) (sym c.self.view_is) s).tables
