-- The rooms that are given back: those of versions and of leases that no compaction would keep (own).
use Rattle.std.specs.Prelude.{◌≡◌, ℕ, ◌<◌, ◌≤◌, Bool, true, false, cond, not, ◌&&◌, List, ◌∷◌, ◌==◌, Option, Some, None, IsSome, is_some, ◌⊎◌}
use Rattle.std.specs.Option.{option_map}
use Rattle.ws_model.specs.declared.event.Event.{Event}
use Rattle.ws_model.specs.declared.event.Intent.{Intent}
use Rattle.ws_model.specs.declared.event.How.{How}
use Rattle.ws_model.specs.declared.event.How.TheVariants.{Done, Gone, Missed}
use Rattle.ws_model.specs.declared.event.Version.{Version as VersionFields}
use Rattle.ws_model.specs.declared.event.What.{What}
use Rattle.ws_model.specs.declared.event.What.TheVariants.{Confirmed, Fetched, Noticed, Pushed, Revoked}
use Rattle.ws_model.specs.declared.fate.Cause.TheVariants.{Replaced}
use Rattle.ws_model.specs.Intents.{notices}
use Rattle.ws_model.specs.Keep.{is_among}
use Rattle.ws_model.specs.Leases.{live}
use Rattle.ws_model.specs.Legal.{Legal, number_limit, pending_of}
use Rattle.ws_model.specs.Moment.{time}
use Rattle.ws_model.specs.Revocation.{live_lease_of}
use Rattle.ws_model.specs.Versions.{latest_of}
use Rattle.ws_compaction.specs.Least.{has_number}
use Rattle.ws_fate.specs.declared.totals.Standing.{Standing}
use Rattle.ws_fate.specs.declared.totals.Standing.TheVariants.{Ended}
use Rattle.ws_fate.specs.Rows.{Rows as FateRows, standing_at}
use Rattle.ws_tries.specs.Rows.{Rows as TryRows, tries_at}
use Rattle.ws_kept.specs.Finding.{is_replaced}
use Rattle.ws_ledger.specs.Rows.{Rows as LedgerRows}
use Rattle.ws_ledger.specs.Stands.{StandsFor as LedgerStands}
use Rattle.ws_core.specs.declared.giving_back.Touched.{Touched}
use Rattle.ws_core.specs.declared.giving_back.Touched.TheVariants.{Nothing, Version, Lease}
use Rattle.ws_core.specs.Past.{IsPast}
use Rattle.ws_core.specs.Rows.{Rows}
use Rattle.ws_core.specs.Stands.{StandsFor}

-- t is the greatest time, the lease isn't live then, and no notice of it is owed
abbrev pub is_over : List Event → ℕ → ℕ → Bool
is_over h t n = (time h == t) && not (has_number n (live h t)) && not (is_among (notices h) n)

-- no compaction at t would keep the lease: it is over, and those of its pairs that went over to a lease that replaced it are of versions
-- that none would keep
pub record IsGone (h : List Event) (t : ℕ) (fates : FateRows) (n : ℕ) : Type 0 where
  pub over : is_over h t n ≡ true
  pub past : (v : ℕ) → standing_at v n fates ≡ Some (Ended Replaced) → IsPast h fates v

-- ---- what is touched

-- the version is meant, or a pair of it and the lease that is meant has a room
abbrev pub is_meant : Touched → TryRows → ℕ → Bool
is_meant Nothing tries v = false
is_meant (Version w) tries v = w == v
is_meant (Lease n) tries v = is_some (tries_at v n tries)

-- it is the lease that is meant
abbrev pub is_of : Touched → ℕ → Bool
is_of Nothing n = false
is_of (Version w) n = false
is_of (Lease m) n = m == n

-- a push touches its version, and one that was answered 410 its lease
abbrev pub touched_by_push : ℕ → ℕ → How → Touched
touched_by_push ver lease Done = Version ver
touched_by_push ver lease Gone = Lease lease
touched_by_push ver lease (Missed code) = Version ver

abbrev pub former : Option VersionFields → Touched
former None = Nothing
former (Some v) = Version v.ver

abbrev pub of_lease : Option ℕ → Touched
of_lease None = Nothing
of_lease (Some n) = Lease n

-- what is confirmed at t touches the live lease of its topic and callback, which it ends or replaces
abbrev pub touched_by_confirmation : List Event → ℕ → Option Intent → Touched
touched_by_confirmation h t None = Nothing
touched_by_confirmation h t (Some i) = of_lease (option_map (λ l. l.intent.n) (live_lease_of h t i.topic i.callback))

-- a new version touches that which was the latest of its topic, and a revocation and a settled notice their lease
abbrev pub touched_of : List Event → ℕ → What → Touched
touched_of h t (Pushed ver lease how) = touched_by_push ver lease how
touched_of h t (Fetched v) = former (latest_of v.topic h)
touched_of h t (Confirmed n sent) = touched_by_confirmation h t (pending_of h n)
touched_of h t (Revoked n reason) = Lease n
touched_of h t (Noticed n heard) = Lease n
touched_of h t _ = Nothing

-- ---- what is given back

-- a room is as it was, or it is gone and was free
abbrev pub Leaves : (ℕ → ℕ → Type 0) → TryRows → TryRows → Type 0
Leaves IsFree old new = (v n : ℕ) → (tries_at v n new ≡ tries_at v n old) ⊎ ((tries_at v n new ≡ None) × IsFree v n)

-- Where the ledger stands for a history, only rooms of versions are given back that no compaction would keep, and of those that are meant
-- all are.
pub record GivesBack (meant : ℕ → Bool) (ledger : LedgerRows) (old new : TryRows) : Type 0 where
  pub left : (h : List Event) (since : ℕ) → LedgerStands h since ledger → Legal h → Leaves (λ v n. IsPast h ledger.fates v) old new
  pub gone : (h : List Event) (since : ℕ) → LedgerStands h since ledger → Legal h → (v n : ℕ) → meant v ≡ true → IsPast h ledger.fates v → tries_at v n new ≡ None

-- the pair ended because its lease was replaced
abbrev pub is_handed_on : Option Standing → Bool
is_handed_on None = false
is_handed_on (Some s) = is_replaced s

-- a pair of the lease that has a room ended because the lease was replaced
abbrev pub HasHeir : TryRows → FateRows → ℕ → Type 0
HasHeir tries fates n = (v : ℕ) × (v < number_limit) × IsSome (tries_at v n tries) × (standing_at v n fates ≡ Some (Ended Replaced))

-- All rooms of the lease that is meant are given back, or none: all where it is over at t and no pair of it that has a room went over to
-- a lease that replaced it.
pub record GivesBackPairs (touched : Touched) (t : ℕ) (ledger : LedgerRows) (old new : TryRows) : Type 0 where
  pub all : Bool
  pub look : (v n : ℕ) → tries_at v n new ≡ cond (all && is_of touched n) None (tries_at v n old)
  pub over : all ≡ true → (n : ℕ) → is_of touched n ≡ true → (h : List Event) (since : ℕ) → LedgerStands h since ledger → Legal h → since ≤ t → is_over h t n ≡ true
  pub none : all ≡ true → (n : ℕ) → is_of touched n ≡ true → HasHeir old ledger.fates n → ⊥
  pub heir : all ≡ false → (n : ℕ) → is_of touched n ≡ true → (h : List Event) (since : ℕ) → LedgerStands h since ledger → Legal h → since ≤ t → is_over h t n ≡ true → HasHeir old ledger.fates n

-- after an event the pairs of the lease that it touches have no rooms, where no compaction at its time would keep the lease
abbrev pub RoomsAreGone : Event → Rows → Rows → Type 0
RoomsAreGone e old new =
    (h : List Event) (since : ℕ)
    → StandsFor h since old → Legal (e ∷ h) → since ≤ e.t → (v n : ℕ) → is_of (touched_of h e.t e.what) n ≡ true → IsGone (e ∷ h) e.t new.ledger.fates n → tries_at v n new.tries ≡ None
