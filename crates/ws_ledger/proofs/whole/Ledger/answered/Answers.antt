use Rattle.std.proofs.Common.{sym, subst}
use Rattle.ws_model.specs.declared.event.How.TheVariants.{Done}
use Rattle.ws_core_tables.specs.Stands.{GoesOn as TablesGoOn}
use Rattle.ws_ledger.specs.Rows.{Rows}
use Rattle.ws_ledger.specs.Stands.{CanFollow, GoesOn}
use Rattle.ws_ledger.proofs.ByKind.{done_stands, pushed_open}
use Rattle.ws_ledger.proofs.whole.Ledger.answered.Goals as goal

pub end_all-requires-clause-are_open : goal.end_all-requires-clause-are_open
end_all-requires-clause-are_open c =
    let f = subst (λ (r : Rows). CanFollow r c.args.event.now) (sym c.self.view_is) c.requires.follows in
    pushed_open _ c.args.event.now c.args.ver c.args.lease Done f c.requires.kind

pub returns : goal.returns
returns c =
    record {
      stands =
          subst (λ (r : Rows). GoesOn c.args.event.now r c.end_all.new.self) c.self.view_is
          (done_stands c.args.event.now c.args.ver c.args.lease _ c.end_all.new.self c.requires.kind
          (subst (TablesGoOn c.args.event.now c.self.inside.tables) (sym c.end_all.ensures.tables) c.pushed.ensures.stands)
          (record { look = c.end_all.ensures.look; totals = c.end_all.ensures.totals; number = c.end_all.ensures.number }));
    }
