use Rattle.std.proofs.Common.{ap, sym, subst, refl}
use Rattle.ws_fate.specs.Rows.{Rows as FateRows}
use Rattle.ws_ledger.specs.Stands.{StandsFor}
use Rattle.ws_ledger.proofs.Beginning.{by_tally}
use Rattle.ws_ledger.proofs.whole.Ledger.tallied.Goals as goal

pub returns-clause-ok : goal.returns-clause-ok
returns-clause-ok c h since s l k =
    by_tally c.args.event.now c.args.tally.now _ (record { tables = c.apply.new.self; fates = c.of_tally.result; open_pairs = 0 }) c.requires.kind
    c.in_ok-apply.ensures.ok
    (ap (λ (r : FateRows). r.pairs) c.of_tally.ensures.empty) refl
    (λ t m. c.of_tally.ensures.stands c.args.event.now t c.requires.kind m)
    h since (subst (StandsFor h since) (sym c.self.view_is) s) l k
