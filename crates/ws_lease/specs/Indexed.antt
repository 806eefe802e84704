-- What holds of the rows and the indexes of a table together.
use Rattle.std.specs.Prelude.{◌≡◌, ℕ, ◌-◌, ◌^◌, ◌<◌, ◌≤◌, min, Bool, true, false, cond, List, Option, Some, None, IfSome, IsSomeAnd, bytes_eq, nat_lt, ◌==◌}
use Rattle.std.specs.Ordering.{nat_cmp, ordering_then}
use Rattle.std.specs.declared.cmp.Ordering.{Ordering}
use Rattle.std.specs.Map.{keys_of}
use Rattle.std.specs.List.Sorted.{IsStrictlySortedBy}
use Rattle.std.specs.BTreeSet.{BTreeSet, contains}
use Rattle.ws_model.specs.declared.lease.Lease.{Lease}
use Rattle.ws_model.specs.Leases.{expiry}
use Rattle.ws_lease.specs.Table.{Rows, lease_at}

-- the time at which a lease expires, as 64 bits can say it
abbrev pub end_of : Lease → ℕ
end_of l = min (expiry l) (2 ^ 64 - 1)

-- by end, then by number
abbrev pub end_order : ℕ × ℕ → ℕ × ℕ → Ordering
end_order x y = ordering_then (nat_cmp x.0 y.0) (nat_cmp x.1 y.1)

-- whether the number stands at this end
abbrev pub has_end : BTreeSet (ℕ × ℕ) → ℕ → ℕ → Bool
has_end ends x n = contains end_order ends (x, n)

-- the end of a lease, where it is of this topic
abbrev pub end_in : List ℕ → Option Lease → Option ℕ
end_in topic None = None
end_in topic (Some l) = cond (bytes_eq topic l.intent.topic) (Some (end_of l)) None

-- whether a lease ends there
abbrev pub ends_at : ℕ → Option Lease → Bool
ends_at x None = false
ends_at x (Some l) = end_of l == x

abbrev pub IsPair : List ℕ → List ℕ → Lease → Type 0
IsPair topic callback l = (l.intent.topic ≡ topic) × (l.intent.callback ≡ callback)

-- each row is found by its topic and callback, by its topic and by its end, and what is found so is a row
pub record IsIndexed (rows : Rows) (pairs : List ℕ → List ℕ → Option ℕ) (topics : List ℕ → ℕ → Option ℕ) (ends : ℕ → ℕ → Bool) : Type 0 where
  pub ordered : IsStrictlySortedBy nat_cmp (keys_of rows)
  pub numbered : (n : ℕ) → IfSome (lease_at n rows) (λ l. l.intent.n ≡ n)
  pub listed : (n : ℕ) → IfSome (lease_at n rows) (λ l. pairs l.intent.topic l.intent.callback ≡ Some n)
  pub found : (topic callback : List ℕ) → IfSome (pairs topic callback) (λ n. IsSomeAnd (lease_at n rows) (IsPair topic callback))
  pub in_topics : (topic : List ℕ) (n : ℕ) → topics topic n ≡ end_in topic (lease_at n rows)
  pub in_ends : (x n : ℕ) → ends x n ≡ ends_at x (lease_at n rows)

-- the number, where its lease is live at t
abbrev pub is_live_at : ℕ → Option Lease → Bool
is_live_at t None = false
is_live_at t (Some l) = nat_lt t (expiry l)

abbrev pub still_live : ℕ → Rows → Option ℕ → Option ℕ
still_live t rows None = None
still_live t rows (Some n) = cond (is_live_at t (lease_at n rows)) (Some n) None

-- the number that ends first, where it ends by t
abbrev pub FirstEnd : ℕ → (ℕ → ℕ → Bool) → Option ℕ → Type 0
FirstEnd t ends None = (x n : ℕ) → ends x n ≡ true → t < x
FirstEnd t ends (Some n) = (x : ℕ) × (x ≤ t) × (ends x n ≡ true) × ((y m : ℕ) → ends y m ≡ true → x ≤ y)
