use Rattle.std.proofs.Common.{◌≡◌, ℕ, drop}
use Rattle.std.specs.BTreeSet.{contains}
use Rattle.std.specs.Ordering.{nat_cmp}
use Rattle.ws_model.specs.Keep.{member}
use Rattle.ws_kept.specs.Finding.{goes_on_in, with_old_ones}
use Rattle.ws_kept.proofs.leases.add_all_replaced.Given as goal

-- what the renewals from this one on tell
abbrev pub invariant-loop-at : goal.invariant-loop-at
invariant-loop-at l =
    record {
      so_far : (n : ℕ) → contains nat_cmp l.leases n ≡ member n (with_old_ones (goes_on_in (contains nat_cmp l.versions) l.fates l.tries) l.fn.leases.keys (drop l.at l.renewals));
    }
