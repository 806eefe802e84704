-- What is taken out of the log, of the renewals and of the rooms (own).
use Rattle.std.specs.Prelude.{◌≡◌, ℕ, Bool, true, false, List}
use Rattle.std.specs.List.{list_any}
use Rattle.ws_model.specs.declared.event.Event.{Event}
use Rattle.ws_model.specs.Keep.{kept_leases, member}
use Rattle.ws_model.specs.Legal.{Legal}
use Rattle.ws_model.specs.Verdict.{is_kept_version}
use Rattle.ws_tries.specs.Rows.{Rows as TryRows}
use Rattle.ws_tries.specs.Stands.{HaveRooms}
use Rattle.ws_kept.specs.declared.renewal.Renewal.{Renewal}
use Rattle.ws_kept.specs.Stands.{AreRenewed, IsLogged}
use Rattle.ws_ledger.specs.Rows.{Rows as LedgerRows}
use Rattle.ws_ledger.specs.Stands.{StandsFor as LedgerStands}
use Rattle.ws_core.specs.GivenBack.{Leaves}

-- At t the ledger stands for the legal history, and the pairs that a compaction would keep have rooms.
pub record AreHeld (h : List Event) (t : ℕ) (ledger : LedgerRows) (tries : TryRows) : Type 0 where
  pub legal : Legal h
  pub stands : LedgerStands h t ledger
  pub rooms : HaveRooms h t tries

-- the log lacks only what no compaction from t on keeps, if it did so before
abbrev pub StaysLogged : ℕ → LedgerRows → TryRows → List Event → List Event → Type 0
StaysLogged t ledger tries old new = (h : List Event) → AreHeld h t ledger tries → IsLogged h t old → IsLogged h t new

-- and so do the renewals
abbrev pub StayRenewed : ℕ → LedgerRows → TryRows → List Renewal → List Renewal → Type 0
StayRenewed t ledger tries old new = (h : List Event) → AreHeld h t ledger tries → AreRenewed h t old → AreRenewed h t new

-- it is a member of the list: each test that it passes finds one
abbrev pub IsAmong : Renewal → List Renewal → Type 0
IsAmong r rs = (test : Renewal → Bool) → test r ≡ true → list_any test rs ≡ true

-- only rooms of versions that no compaction at t keeps are gone
abbrev pub LeavesVersions : ℕ → LedgerRows → TryRows → TryRows → Type 0
LeavesVersions t ledger old new = (h : List Event) → AreHeld h t ledger old → Leaves (λ v n. is_kept_version h t v ≡ false) old new

-- only rooms of leases that no compaction at t keeps are gone
abbrev pub LeavesLeases : ℕ → LedgerRows → List Renewal → TryRows → TryRows → Type 0
LeavesLeases t ledger rows old new = (h : List Event) → AreHeld h t ledger old → AreRenewed h t rows → Leaves (λ v n. member n (kept_leases h t) ≡ false) old new
