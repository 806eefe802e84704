use Rattle.std.proofs.Common.{◌∙◌}
use Rattle.ws_fate.proofs.SameRows.{same_rows}
use Rattle.ws_ledger.proofs.Lists.{undone}
use Rattle.ws_ledger.proofs.births.bear_all.Goals as goal

pub returns-in-Err-clause-err : goal.returns-in-Err-clause-err
returns-in-Err-clause-err c =
    same_rows c.args.fates.now c.unbear_all.new.fates c.count.ensures.ordered c.count-in-Err.ensures.ordered
    (λ v n. c.unbear_all.ensures.look v n ∙ undone c.args.pairs.now c.args.fates.now c.bear_each.new.fates c.requires.new c.in-Err.ensures.others v n)
    (c.unbear_all.ensures.totals ∙ c.in-Err.ensures.totals)
