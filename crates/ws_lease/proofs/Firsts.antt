-- The least of the ends.
use Rattle.std.proofs.Common.{◌≡◌, ℕ, ◌≤◌, false, is_gt, arith}
use Rattle.std.specs.Ordering.{nat_cmp, ordering_then}
use Rattle.std.specs.declared.cmp.Ordering.{Ordering}
use Rattle.std.proofs.lemmas.Bool.Decides.{nat_tests}
use Rattle.ws_lease.specs.Indexed.{end_order}

pub not_after : (k q : ℕ × ℕ) → is_gt (end_order k q) ≡ false → k.0 ≤ q.0
not_after k q e = by k.0 q.0 _ e
  where
    by : (a b : ℕ) (o : Ordering) → is_gt (ordering_then (nat_cmp a b) o) ≡ false → a ≤ b
    by a b o e = grind (arith, nat_tests)
