use Rattle.std.proofs.Common.{ap, sym, subst, ◌∙◌, ◌+◌, ◌-◌}
use Rattle.std.specs.Prelude.{min}
use Rattle.ws_model.specs.Account.{most}
use Rattle.ws_fate.specs.declared.totals.Totals.{Totals}
use Rattle.ws_ledger.specs.Stands.{StandsFor}
use Rattle.ws_ledger.proofs.whole.Ledger.counts.Goals as goal

pub returns : goal.returns
returns c =
    record {
      stands = λ h since s l k.
          let inside = subst (StandsFor h since) (sym c.self.view_is) s in
          let totals = c.totals-totals.ensures in
          let told = inside.totals c.args.t k in
          let owed = c.owed-owed.ensures.stands h since inside.tables l k in
          λ i.
          record {
            pending = c.pending.ensures.stands h since inside.tables l i;
            notices = c.notices.ensures.stands h since inside.tables l i;
            leases = c.live_leases.ensures.stands h since inside.tables l k i;
            topics = c.topics.ensures.stands h since inside.tables l i;
            fetches = c.fetches.ensures.stands h since inside.tables l i;
            owed = owed i;
            answered = (ap (λ (z : Totals). z.answered) totals ∙ ap (λ (z : Totals). z.answered) told) i;
            expired = (
                c.saturating_add.ensures
                ∙ ap (λ (z : Totals). min (z.expired + c.saturating_sub-expired.result) most) totals
                ∙ ap (λ x. min (c.self.inside.fates.totals.expired + x) most) (c.saturating_sub-expired.ensures ∙ ap (λ x. c.self.inside.open_pairs - x) owed)
                ∙ ap (λ (z : Totals). z.expired) told
                ) i;
            unsubscribed = (ap (λ (z : Totals). z.unsubscribed) totals ∙ ap (λ (z : Totals). z.unsubscribed) told) i;
            replaced = (ap (λ (z : Totals). z.replaced) totals ∙ ap (λ (z : Totals). z.replaced) told) i;
            gone = (ap (λ (z : Totals). z.gone) totals ∙ ap (λ (z : Totals). z.gone) told) i;
            spent = (ap (λ (z : Totals). z.spent) totals ∙ ap (λ (z : Totals). z.spent) told) i;
            revoked = (ap (λ (z : Totals). z.revoked) totals ∙ ap (λ (z : Totals). z.revoked) told) i;
          };
    }
