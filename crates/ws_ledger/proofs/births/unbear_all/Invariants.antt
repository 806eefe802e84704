use Rattle.std.proofs.Common.{◌≡◌, drop}
use Rattle.std.specs.Prelude.{None}
use Rattle.ws_ledger.proofs.Lists.{AreChanged}
use Rattle.ws_ledger.proofs.births.unbear_all.Given as goal

abbrev pub invariant-loop-pair : goal.invariant-loop-pair
invariant-loop-pair l =
    record {
      changed : AreChanged None l.pairs (drop l.pair-index l.pairs) l.fn.fates l.fates;
      totals : l.fates.totals ≡ l.fn.fates.totals;
    }
