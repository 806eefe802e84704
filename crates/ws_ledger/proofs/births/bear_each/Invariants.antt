use Rattle.std.proofs.Common.{◌≡◌, drop}
use Rattle.std.specs.Prelude.{Some}
use Rattle.ws_fate.specs.declared.totals.Standing.TheVariants.{Open}
use Rattle.ws_ledger.proofs.Lists.{AreChanged}
use Rattle.ws_ledger.proofs.births.bear_each.Given as goal

abbrev pub invariant-loop-pair : goal.invariant-loop-pair
invariant-loop-pair l =
    record {
      changed : AreChanged (Some Open) l.pairs (drop l.pair-index l.pairs) l.fn.fates l.fates;
      totals : l.fates.totals ≡ l.fn.fates.totals;
    }
