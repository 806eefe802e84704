-- The push that is due first (own).
use Rattle.std.specs.Prelude.{◌≡◌, ℕ, ◌≤◌, ◌<◌, Bool, false, List, ◌&&◌, ◌||◌, nat_lt, ◌==◌, Option, Some, None}
use Rattle.ws_model.specs.declared.work.Work.{Work}
use Rattle.ws_order.specs.NextTries.{is_out_push}
use Rattle.ws_delivery.specs.declared.open_pair.OpenPair.{OpenPair}
use Rattle.ws_delivery.specs.Table.{Rows, owed_at}

-- the push of this version to this lease is due at t: it is owed, its next try has come, no lower
-- version is owed to the lease, and no ticket for it is out
pub record IsDue (t : ℕ) (out : List Work) (rows : Rows) (v n : ℕ) : Type 0 where
  pub pair : OpenPair
  pub still_owed : owed_at t v n rows ≡ Some pair
  pub has_come : pair.next ≤ t
  pub lowest : (w : ℕ) → w < v → owed_at t w n rows ≡ None
  pub free : is_out_push out v n ≡ false

-- by next try, version, lease
abbrev pub comes_before : ℕ → ℕ → ℕ → ℕ → ℕ → ℕ → Bool
comes_before next v n next' v' n' = nat_lt next next' || ((next == next') && (nat_lt v v' || ((v == v') && nat_lt n n')))

-- this push is due, and none that is due comes before it
pub record IsFirstDue (t : ℕ) (out : List Work) (rows : Rows) (v n : ℕ) : Type 0 where
  pub due : IsDue t out rows v n
  pub first : (w m : ℕ) (other : IsDue t out rows w m) → comes_before other.pair.next w m due.pair.next v n ≡ false

-- the first push that is due, where one is
abbrev pub IsNextDue : ℕ → List Work → Rows → Option (ℕ × ℕ) → Type 0
IsNextDue t out rows None = (v n : ℕ) → IsDue t out rows v n → ⊥
IsNextDue t out rows (Some r) = IsFirstDue t out rows r.0 r.1
