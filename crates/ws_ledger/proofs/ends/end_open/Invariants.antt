use Rattle.std.proofs.Common.{◌≡◌, ◌+◌, length}
use Rattle.std.specs.Prelude.{Some}
use Rattle.ws_ledger.specs.Pairs.{with_lease, with_many}
use Rattle.ws_ledger.proofs.Lists.{AreChanged}
use Rattle.ws_ledger.proofs.ends.end_open.Given as goal

abbrev pub invariant-loop-ver : goal.invariant-loop-ver
invariant-loop-ver l =
    record {
      changed : AreChanged (Some l.how) (with_lease l.lease l.fn.versions) (with_lease l.lease l.ver-iterator) l.fn.fates l.fates;
      totals : with_many (length l.ver-iterator) l.how l.fates.totals ≡ with_many (length l.fn.versions) l.how l.fn.fates.totals;
      number : l.open_pairs + length l.fn.versions ≡ l.fn.open_pairs + length l.ver-iterator;
    }
