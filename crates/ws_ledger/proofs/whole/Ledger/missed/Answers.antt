use Rattle.std.proofs.Common.{◌≡◌, ℕ, ◌+◌, arith, true, false, sym, ap, ◌∙◌, subst, refl}
use Rattle.ws_model.specs.declared.event.How.TheVariants.{Missed}
use Rattle.ws_core_tables.specs.Stands.{GoesOn as TablesGoOn}
use Rattle.ws_ledger.specs.Rows.{Rows}
use Rattle.ws_ledger.specs.Spent.{is_last}
use Rattle.ws_ledger.specs.Stands.{CanFollow, GoesOn}
use Rattle.ws_ledger.proofs.ByKind.{missed_stands, pushed_open}
use Rattle.ws_ledger.proofs.whole.Ledger.missed.Goals as goal

plus_none : (k : ℕ) → k + 0 ≡ k
plus_none k = omega arith

pub end_all-requires-clause-are_open : goal.end_all-requires-clause-are_open
end_all-requires-clause-are_open c =
    let f = subst (λ (r : Rows). CanFollow r c.args.event.now) (sym c.self.view_is) c.requires.follows in
    pushed_open _ c.args.event.now c.args.ver c.args.lease (Missed c.args.code) f c.requires.kind

pub returns-then-last : goal.returns-then-last
returns-then-last c =
    record {
      stands =
          subst (λ (r : Rows). GoesOn c.args.event.now r c.end_all.new.self) c.self.view_is
          (missed_stands c.args.event.now c.args.ver c.args.lease c.args.code true _ c.end_all.new.self c.requires.kind
          (sym c.if-last.true ∙ c.is_last-last.ensures ∙ ap is_last c.open_fate.ensures)
          (subst (TablesGoOn c.args.event.now c.self.inside.tables) (sym c.end_all.ensures.tables) c.pushed.ensures.stands)
          (record { look = c.end_all.ensures.look; totals = c.end_all.ensures.totals; number = c.end_all.ensures.number }));
    }

pub returns-else-last : goal.returns-else-last
returns-else-last c =
    record {
      stands =
          subst (λ (r : Rows). GoesOn c.args.event.now r (record { tables = c.pushed.new.self; fates = c.self.inside.fates; open_pairs = c.self.inside.open_pairs })) c.self.view_is
          (missed_stands c.args.event.now c.args.ver c.args.lease c.args.code false _ _ c.requires.kind
          (sym c.if-last.false ∙ c.is_last-last.ensures ∙ ap is_last c.open_fate.ensures)
          c.pushed.ensures.stands
          (record { look = λ v n. refl; totals = refl; number = plus_none c.self.inside.open_pairs }));
    }
