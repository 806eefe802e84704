use Rattle.std.proofs.Common.{◌≡◌, sym, subst, arith}
use Rattle.std.specs.Prelude.{None, IfSome}
use Rattle.std.proofs.lemmas.List.{at_drop_more}
use Rattle.ws_fate.specs.declared.totals.Standing.TheVariants.{Open}
use Rattle.ws_ledger.proofs.Lists.{AreChanged, next_listed, next_same}
use Rattle.ws_ledger.proofs.births.unbear_all.Goals as goal

pub unbear_one-requires : goal.unbear_one-requires
unbear_one-requires c =
    let changed = subst (λ left. AreChanged None c.args.pairs.now left c.args.fates.now c.loop-pair.fates) (at_drop_more (λ xs. xs) c.args.pairs.now c.loop-pair.pair-index (0, 0) (omega arith)) c.loop-pair.invariant.changed in
    record { is_open = subst (λ o. IfSome o (λ s. s ≡ Open)) (sym (next_same None _ c.args.pairs.now _ c.args.fates.now c.loop-pair.fates changed)) (c.requires.are_open _ _ (next_listed None _ c.args.pairs.now _ c.args.fates.now c.loop-pair.fates changed)) }
