use Rattle.std.proofs.Common.{◌∙◌, subst, arith}
use Rattle.std.specs.Prelude.{Some}
use Rattle.std.proofs.lemmas.List.{at_drop_more}
use Rattle.ws_fate.specs.declared.totals.Standing.TheVariants.{Open}
use Rattle.ws_ledger.proofs.Lists.{AreChanged, next_listed, next_same}
use Rattle.ws_ledger.proofs.births.bear_each.Goals as goal

pub born-requires : goal.born-requires
born-requires c =
    let changed = subst (λ left. AreChanged (Some Open) c.args.pairs.now left c.args.fates.now c.loop-pair.fates) (at_drop_more (λ xs. xs) c.args.pairs.now c.loop-pair.pair-index (0, 0) (omega arith)) c.loop-pair.invariant.changed in
    record { new = next_same (Some Open) _ c.args.pairs.now _ c.args.fates.now c.loop-pair.fates changed ∙ c.requires.new _ _ (next_listed (Some Open) _ c.args.pairs.now _ c.args.fates.now c.loop-pair.fates changed) }
