-- A table without one of its leases.
use Rattle.std.proofs.Common.{◌≡◌, ℕ, suc, ◌<◌, Bool, true, false, cond, [], ◌∷◌, ap, length, arith}
use Rattle.std.specs.Prelude.{is_some, Some}
use Rattle.std.specs.Ordering.{nat_cmp}
use Rattle.std.specs.BTreeMap.{is_at}
use Rattle.std.proofs.lemmas.Bool.{false≢true}
use Rattle.ws_model.specs.declared.lease.Lease.{Lease}
use Rattle.ws_lease.specs.Table.{Rows, lease_at, without}

-- it is shorter
pub shorter : (n : ℕ) (l : Lease) (rows : Rows) → lease_at n rows ≡ Some l → length (without n rows) < length rows
shorter n l [] k = absurd (false≢true (ap is_some k))
shorter n l (r ∷ rows) k = by (is_at (nat_cmp n) r.0) k (shorter n l rows)
  where
    by : (b : Bool) → cond b (Some r.1) (lease_at n rows) ≡ Some l → (lease_at n rows ≡ Some l → length (without n rows) < length rows) → length (cond b rows (r ∷ without n rows)) < suc (length rows)
    by true k f = omega arith
    by false k f = let a = f k in omega arith
