use Rattle.std.proofs.Common.{◌∙◌, subst, arith}
use Rattle.std.specs.Prelude.{Some}
use Rattle.std.proofs.lemmas.List.{at_drop_more}
use Rattle.ws_ledger.proofs.Lists.{AreChanged, next_listed, next_same}
use Rattle.ws_ledger.proofs.ends.end_all.Goals as goal

pub end-requires : goal.end-requires
end-requires c =
    let changed = subst (λ left. AreChanged (Some c.args.how) c.args.pairs.now left c.args.fates.now c.loop-pair.fates) (at_drop_more (λ xs. xs) c.args.pairs.now c.loop-pair.pair-index (0, 0) (omega arith)) c.loop-pair.invariant.changed in
    record { is_open = next_same (Some c.args.how) _ c.args.pairs.now _ c.args.fates.now c.loop-pair.fates changed ∙ c.requires.are_open _ _ (next_listed (Some c.args.how) _ c.args.pairs.now _ c.args.fates.now c.loop-pair.fates changed) }
