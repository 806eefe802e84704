use Rattle.std.proofs.Common.{sym, subst}
use Rattle.ws_ledger.specs.Stands.{StandsFor}
use Rattle.ws_ledger.proofs.InTurn.{first_of_three}
use Rattle.ws_ledger.proofs.whole.Ledger.intent.Goals as goal

pub returns : goal.returns
returns c =
    record {
      stands = λ h since s l k.
          let inside = subst (StandsFor h since) (sym c.self.view_is) s in
          first_of_three c.pending_intent-pending.result c.denied_intent-denied.result c.leased_intent-leased.result c.or.result c.or-2.result _ _ _
          c.or.ensures c.or-2.ensures
          (c.pending_intent-pending.ensures.stands h since inside.tables)
          (c.denied_intent-denied.ensures.stands h since inside.tables)
          (c.leased_intent-leased.ensures.stands h since inside.tables l k);
    }
