use Rattle.std.proofs.Common.{◌∷◌, ◌++◌, [], ap, ◌∙◌, sym, subst}
use Rattle.ws_fate.specs.Stands.{AreShown}
use Rattle.ws_core_tables.specs.Stands.{StandsFor as TablesStand}
use Rattle.ws_core.specs.Stands.{StandsFor}
use Rattle.ws_core.proofs.AllKept.{rooms_later, shown, together, whole}
use Rattle.ws_core.proofs.whole.Core.keep.Goals as goal

pub returns : goal.returns
returns c =
    record {
      stands = λ h since s l le.
          let inside = subst (StandsFor h since) (sym c.self.view_is) s in
          let tables = subst (TablesStand h since) (sym c.tables-tables.ensures) inside.ledger.tables in
          let fates = subst (AreShown h since) (sym c.fates-fates.ensures) (shown h since c.self.inside.ledger inside.ledger) in
          let rooms = rooms_later h since c.args.t c.self.inside.tries l le inside.rooms in
          let kept = c.in_ok-kept.ensures.stands h since tables fates rooms inside.log inside.renewals l le in
          let others = c.in_ok-events.ensures.stands h since tables kept inside.log inside.renewals l le in
          let pushes = c.in_ok-pushes.ensures.gathered h c.args.t l inside.tries rooms kept in
          let ordered = c.in_order.ensures.gathered h _ l (together h c.args.t c.in_ok-events.events.items c.in_ok-pushes.pushes.items c.append.new.self.items l others pushes c.in_ok-append.ensures.items) in
          let first = c.tally.ensures.stands h since tables fates rooms inside.only kept (c.counts-account.ensures.stands h since inside.ledger l le) inside.log l le in
          c.in_ok-append-2.ensures.items
          ∙ ap (λ es. es ++ c.in_order.result.items) (c.in_ok-push.ensures.items ∙ ap (λ es. es ++ c.tally.result ∷ []) c.new-list.ensures.items)
          ∙ whole h c.args.t c.tally.result c.in_order.result.items first ordered;
    }
