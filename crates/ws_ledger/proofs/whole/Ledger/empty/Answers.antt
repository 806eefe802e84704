use Rattle.std.proofs.Common.{[], refl, ap, arith}
use Rattle.ws_fate.specs.Rows.{Rows as FateRows}
use Rattle.ws_ledger.proofs.Beginning.{without_pairs}
use Rattle.ws_ledger.proofs.whole.Ledger.empty.Goals as goal

pub returns-clause-history : goal.returns-clause-history
returns-clause-history c =
    record {
      past = [];
      since = 0;
      stands = without_pairs [] 0 _ refl c.empty.ensures.stands (ap (λ (r : FateRows). r.pairs) c.empty-2.ensures.empty) refl (λ t le. ap (λ (r : FateRows). r.totals) c.empty-2.ensures.empty);
      legal = tt;
      in_time = omega arith;
    }
