-- The table of leases as contracts see it: the leases that it holds, each with its number, the numbers
-- rising (own). A lease that has expired may still be held.
use Rattle.std.specs.Prelude.{◌≡◌, ℕ, ◌≤◌, Bool, true, false, cond, ◌&&◌, List, map, filter, find, Option, Some, None, nat_lt, nat_le, bytes_eq, option_map}
use Rattle.std.specs.List.{AllByRecursion, list_any}
use Rattle.std.specs.Ordering.{nat_cmp}
use Rattle.std.specs.Map.{lookup, remove_entry}
use Rattle.std.specs.BTreeMap.{is_at, insert_entry}
use Rattle.ws_model.specs.declared.lease.Lease.{Lease}
use Rattle.ws_model.specs.declared.fate.Cause.{Cause}
use Rattle.ws_model.specs.declared.fate.Cause.TheVariants.{Unsubscribed, Gone, Revoked}
use Rattle.ws_model.specs.Leases.{expiry}
use Rattle.ws_model.specs.Revocation.{is_lease_of}

abbrev pub Rows : Type 0
Rows = List (ℕ × Lease)

-- the lease of a number
abbrev pub lease_at : ℕ → Rows → Option Lease
lease_at n rows = lookup (is_at (nat_cmp n)) rows

-- a lease that hasn't expired at t
abbrev pub unexpired : ℕ → Option Lease → Option Lease
unexpired t None = None
unexpired t (Some l) = cond (nat_lt t (expiry l)) (Some l) None

-- the lease of a number, where it is live at t
abbrev pub live_at : ℕ → ℕ → Rows → Option Lease
live_at n t rows = unexpired t (lease_at n rows)

-- ---- of a topic and a callback

abbrev pub is_row_of : List ℕ → List ℕ → ℕ × Lease → Bool
is_row_of topic callback e = is_lease_of topic callback e.1

abbrev pub is_live_row_of : List ℕ → List ℕ → ℕ → ℕ × Lease → Bool
is_live_row_of topic callback t e = is_lease_of topic callback e.1 && nat_lt t (expiry e.1)

-- the number of the lease of a topic and a callback, be it live or not
abbrev pub number_of_pair : List ℕ → List ℕ → Rows → Option ℕ
number_of_pair topic callback rows = option_map (λ e. e.0) (find (is_row_of topic callback) rows)

-- the number of the live lease of a topic and a callback
abbrev pub live_of_pair : List ℕ → List ℕ → ℕ → Rows → Option ℕ
live_of_pair topic callback t rows = option_map (λ e. e.0) (find (is_live_row_of topic callback t) rows)

-- ---- of a topic, and all

abbrev pub is_live_row_of_topic : List ℕ → ℕ → ℕ × Lease → Bool
is_live_row_of_topic topic t e = bytes_eq e.1.intent.topic topic && nat_lt t (expiry e.1)

-- the numbers of the live leases of a topic, rising
abbrev pub live_numbers : List ℕ → ℕ → Rows → List ℕ
live_numbers topic t rows = map (λ e. e.0) (filter (is_live_row_of_topic topic t) rows)

-- the rows of live leases
abbrev pub live_rows : ℕ → Rows → Rows
live_rows t rows = filter (λ e. nat_lt t (expiry e.1)) rows

-- ---- changes

-- one lease more, in its place
abbrev pub with_lease : Lease → Rows → Rows
with_lease l rows = insert_entry nat_cmp rows l.intent.n l

-- the lease of a number less
abbrev pub without : ℕ → Rows → Rows
without n rows = remove_entry (is_at (nat_cmp n)) rows

abbrev pub without_one : Option ℕ → Rows → Rows
without_one None rows = rows
without_one (Some n) rows = without n rows

-- what is left of a lease once another one of its topic and callback is confirmed
abbrev pub unless_pair : Lease → Option Lease → Option Lease
unless_pair l None = None
unless_pair l (Some x) = cond (is_lease_of l.intent.topic l.intent.callback x) None (Some x)

-- the causes by which a lease is ended: it is neither replaced nor expired then
abbrev pub is_end : Cause → Bool
is_end Unsubscribed = true
is_end Gone = true
is_end Revoked = true
is_end _ = false

-- a lease that has expired by t, of all held leases one of the first to expire
pub record IsFirstExpired (t : ℕ) (l : Lease) (rows : Rows) : Type 0 where
  pub held : lease_at l.intent.n rows ≡ Some l
  pub expired : expiry l ≤ t
  pub first : AllByRecursion (λ e. expiry l ≤ expiry e.1) rows

-- the lease that expired first, taken out, or none where none has expired by t
abbrev pub TakesExpired : ℕ → Rows → Option Lease → Rows → Type 0
TakesExpired t old None new = (new ≡ old) × (list_any (λ e. nat_le (expiry e.1) t) old ≡ false)
TakesExpired t old (Some l) new = (new ≡ without l.intent.n old) × IsFirstExpired t l old
