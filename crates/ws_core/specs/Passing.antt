-- Leases that have expired are let go (own).
use Rattle.std.specs.Prelude.{◌≡◌, ℕ, ◌≤◌, List, None}
use Rattle.std.specs.Option.{IsSomeAnd}
use Rattle.ws_model.specs.declared.event.Event.{Event}
use Rattle.ws_model.specs.Leases.{expiry}
use Rattle.ws_model.specs.Legal.{Legal}
use Rattle.ws_lease.specs.Table.{lease_at}
use Rattle.ws_tries.specs.Rows.{Rows as TryRows, tries_at}
use Rattle.ws_kept.specs.declared.renewal.Renewal.{Renewal}
use Rattle.ws_core_tables.specs.Passing.{AreUnexpired}
use Rattle.ws_ledger.specs.Rows.{Rows as LedgerRows}
use Rattle.ws_core.specs.GivenBack.{IsGone}
use Rattle.ws_core.specs.Rows.{Rows}
use Rattle.ws_core.specs.Stands.{StandsFor}

-- what stands for a history from t on still does
abbrev pub Passes : ℕ → LedgerRows → TryRows → LedgerRows → TryRows → Type 0
Passes t ledger tries later left =
    (h log : List Event) (renewals : List Renewal)
    → StandsFor h t (record { ledger = ledger; log = log; renewals = renewals; tries = tries }) → Legal h → StandsFor h t (record { ledger = later; log = log; renewals = renewals; tries = left })

-- no pair gets a room
abbrev pub StayGone : TryRows → TryRows → Type 0
StayGone tries left = (v n : ℕ) → tries_at v n tries ≡ None → tries_at v n left ≡ None

-- the lease is held in the tables, and has expired by t
abbrev pub HasExpired : ℕ → ℕ → LedgerRows → Type 0
HasExpired t n ledger = IsSomeAnd (lease_at n ledger.tables.leases) (λ l. expiry l ≤ t)

-- the pairs of held leases that have expired by t have no rooms, where no compaction at t would keep the lease
abbrev pub ExpiredAreGone : ℕ → LedgerRows → TryRows → TryRows → Type 0
ExpiredAreGone t ledger tries left =
    (h log : List Event) (renewals : List Renewal)
    → StandsFor h t (record { ledger = ledger; log = log; renewals = renewals; tries = tries }) → Legal h → (v n : ℕ) → HasExpired t n ledger → IsGone h t ledger.fates n → tries_at v n left ≡ None

-- the core holds no lease that has expired by t
abbrev pub HoldsNoExpired : ℕ → Rows → Type 0
HoldsNoExpired t rows = AreUnexpired t rows.ledger.tables.leases
