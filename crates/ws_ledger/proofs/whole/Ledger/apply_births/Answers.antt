use Rattle.std.proofs.Common.{ap, ◌∙◌, subst}
use Rattle.std.specs.Prelude.{Some, cond}
use Rattle.ws_fate.specs.declared.totals.Standing.TheVariants.{Open}
use Rattle.ws_fate.specs.Rows.{standing_at}
use Rattle.ws_fate.proofs.SameRows.{same_rows}
use Rattle.ws_core_tables.specs.Stands.{GoesOn as TablesGoOn}
use Rattle.ws_ledger.specs.Rows.{Rows}
use Rattle.ws_ledger.proofs.Lists.{undone}
use Rattle.ws_ledger.proofs.whole.Ledger.apply_births.Goals as goal

pub returns-in-Ok-clause-tables : goal.returns-in-Ok-clause-tables
returns-in-Ok-clause-tables c = subst (λ (r : Rows). TablesGoOn c.args.event.now r.tables c.apply.new.self) c.self.view_is c.in-Ok.ensures.ok

pub returns-in-Err-clause-err : goal.returns-in-Err-clause-err
returns-in-Err-clause-err c =
    let same =
    same_rows c.self.inside.fates c.unbear_all.new.fates c.count.ensures.ordered c.count-in-Err.ensures.ordered
    (λ v n.
    c.unbear_all.ensures.look v n
    ∙ undone c.args.births.now c.self.inside.fates c.bear_all.new.fates (λ v n k. ap (λ (r : Rows). standing_at v n r.fates) c.self.view_is ∙ c.requires.new v n k)
    (λ v n k. c.in_ok-bear_all.ensures.look v n ∙ ap (λ b. cond b (Some Open) (standing_at v n c.self.inside.fates)) k) v n)
    (c.unbear_all.ensures.totals ∙ c.in_ok-bear_all.ensures.totals) in
    (λ j. record { tables = c.in-Err.ensures.err j; fates = same j; open_pairs = c.self.inside.open_pairs }) ∙ c.self.view_is
