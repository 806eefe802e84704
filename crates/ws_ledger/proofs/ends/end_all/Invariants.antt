use Rattle.std.proofs.Common.{◌≡◌, drop, length}
use Rattle.std.specs.Prelude.{Some}
use Rattle.ws_ledger.specs.Pairs.{with_many}
use Rattle.ws_ledger.proofs.Lists.{AreChanged}
use Rattle.ws_ledger.proofs.ends.end_all.Given as goal

abbrev pub invariant-loop-pair : goal.invariant-loop-pair
invariant-loop-pair l =
    record {
      changed : AreChanged (Some l.how) l.pairs (drop l.pair-index l.pairs) l.fn.fates l.fates;
      totals : with_many (length (drop l.pair-index l.pairs)) l.how l.fates.totals ≡ with_many (length l.pairs) l.how l.fn.fates.totals;
    }
