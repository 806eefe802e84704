-- For which history a table of leases stands.
use Rattle.std.specs.Prelude.{◌≡◌, ℕ, ◌≤◌, Bool, true, false, List, [], ◌∷◌, Option, Some, None, IfSome, find, ◌==◌}
use Rattle.std.specs.List.{AllByRecursion, list_any}
use Rattle.std.specs.List.Sorted.{IsStrictlySortedBy}
use Rattle.std.specs.Ordering.{nat_cmp}
use Rattle.ws_model.specs.declared.event.Event.{Event}
use Rattle.ws_model.specs.declared.event.What.{What}
use Rattle.ws_model.specs.declared.event.What.TheVariants.{Confirmed, Pushed, Revoked}
use Rattle.ws_model.specs.declared.event.How.{How}
use Rattle.ws_model.specs.declared.event.How.TheVariants.{Gone}
use Rattle.ws_model.specs.declared.event.Intent.{Intent}
use Rattle.ws_model.specs.declared.lease.Lease.{Lease}
use Rattle.ws_model.specs.declared.fate.Cause.{Cause}
use Rattle.ws_model.specs.declared.fate.Cause.TheVariants.{Unsubscribed, Gone as LeaseGone, Revoked as LeaseRevoked}
use Rattle.ws_model.specs.History.{has}
use Rattle.ws_model.specs.Moment.{last_time}
use Rattle.ws_model.specs.Leases.{live, is_on, is_confirmed, confirmed_intent, lease_of, end_by}
use Rattle.ws_model.specs.Legal.{Legal}
use Rattle.ws_model.specs.Revocation.{live_lease_of}
use Rattle.ws_lease.specs.Table.{Rows, lease_at, live_at}

abbrev pub is_numbered : ℕ → Lease → Bool
is_numbered n l = l.intent.n == n

-- the live lease of a number
abbrev pub live_numbered : List Event → ℕ → ℕ → Option Lease
live_numbered h t n = find (is_numbered n) (live h t)

-- From the moment `since` on, which isn't before the last event of the history, the table has at each
-- number the live lease of that number; and all that it holds was confirmed.
pub record StandsFor (h : List Event) (since : ℕ) (rows : Rows) : Type 0 where
  pub begun : last_time h ≤ since
  pub shows : (t n : ℕ) → since ≤ t → live_at n t rows ≡ live_numbered h t n
  pub confirmed : (n : ℕ) → IfSome (lease_at n rows) (λ l. has (is_confirmed n) h ≡ true)

-- numbers that rise, and are those of these leases
pub record AreNumbersOf (numbers : List ℕ) (leases : List Lease) : Type 0 where
  pub rising : IsStrictlySortedBy nat_cmp numbers
  pub same : (n : ℕ) → list_any (λ m. m == n) numbers ≡ list_any (is_numbered n) leases

-- the event makes this lease
pub record MakesLease (e : Event) (h : List Event) (l : Lease) : Type 0 where
  pub confirms : e.what ≡ Confirmed l.intent.n l.sent
  pub asked : confirmed_intent e.what h ≡ Some l.intent

-- the event ends the live lease of this number by this cause
pub record EndsLease (e : Event) (h : List Event) (n : ℕ) (cause : Cause) : Type 0 where
  pub lease : Lease
  pub lives : live_numbered h e.t n ≡ Some lease
  pub by : end_by e.what (confirmed_intent e.what h) lease ≡ Some cause

-- the event makes no lease, and ends no live one
pub record LeavesLeases (e : Event) (h : List Event) : Type 0 where
  pub makes_none : lease_of e.what (confirmed_intent e.what h) ≡ []
  pub ends_none : AllByRecursion (λ l. end_by e.what (confirmed_intent e.what h) l ≡ None) (live h e.t)

-- ---- which events end a lease

-- a push that is answered 410 ends the lease that it was for
abbrev pub GoneEnds : Type 0
GoneEnds = (h : List Event) (e : Event) (v n : ℕ) → Legal (e ∷ h) → e.what ≡ Pushed v n Gone → EndsLease e h n LeaseGone

-- a revocation ends its lease
abbrev pub RevokedEnds : Type 0
RevokedEnds = (h : List Event) (e : Event) (n : ℕ) (reason : List ℕ) → Legal (e ∷ h) → e.what ≡ Revoked n reason → EndsLease e h n LeaseRevoked

-- a confirmed unsubscription ends the live lease of its topic and callback
abbrev pub UnsubscriptionEnds : Type 0
UnsubscriptionEnds =
    (h : List Event) (e : Event) (m sent : ℕ) (i : Intent) (l : Lease) → Legal (e ∷ h)
    → e.what ≡ Confirmed m sent → confirmed_intent e.what h ≡ Some i → is_on i.mode ≡ false
    → live_lease_of h e.t i.topic i.callback ≡ Some l → EndsLease e h l.intent.n Unsubscribed

-- a confirmed unsubscription leaves all leases, where none of its topic and callback is live
abbrev pub UnsubscriptionLeaves : Type 0
UnsubscriptionLeaves =
    (h : List Event) (e : Event) (m sent : ℕ) (i : Intent)
    → e.what ≡ Confirmed m sent → confirmed_intent e.what h ≡ Some i → is_on i.mode ≡ false
    → live_lease_of h e.t i.topic i.callback ≡ None → LeavesLeases e h

abbrev pub is_gone : How → Bool
is_gone Gone = true
is_gone _ = false

-- the kinds of event that may make or end a lease
abbrev pub touches_leases : What → Bool
touches_leases (Confirmed n sent) = true
touches_leases (Pushed v n how) = is_gone how
touches_leases (Revoked n reason) = true
touches_leases _ = false

-- every other event leaves all leases
abbrev pub OthersLeave : Type 0
OthersLeave = (h : List Event) (e : Event) → touches_leases e.what ≡ false → LeavesLeases e h

-- ---- what the table stands for

-- a table that stands for a history stands, as it is, for the history with an event that leaves all leases
abbrev pub StandsOn : Type 0
StandsOn = (rows : Rows) (h : List Event) (e : Event) (since : ℕ) → StandsFor h since rows → since ≤ e.t → Legal (e ∷ h) → LeavesLeases e h → StandsFor (e ∷ h) e.t rows

-- and it stands from any later moment on
abbrev pub StandsLater : Type 0
StandsLater = (rows : Rows) (h : List Event) (since later : ℕ) → StandsFor h since rows → since ≤ later → StandsFor h later rows

-- a lease that an event makes isn't held before, and was sent by the event's time
abbrev pub NewIsNotHeld : Type 0
NewIsNotHeld =
    (rows : Rows) (h : List Event) (e : Event) (since : ℕ) (l : Lease) → StandsFor h since rows → Legal (e ∷ h) → MakesLease e h l → is_on l.intent.mode ≡ true
    → (lease_at l.intent.n rows ≡ None) × (l.sent ≤ e.t)

-- a lease that an event ends is live in the table
abbrev pub EndedIsLive : Type 0
EndedIsLive = (rows : Rows) (h : List Event) (e : Event) (since n : ℕ) (cause : Cause) → StandsFor h since rows → since ≤ e.t → EndsLease e h n cause → (l : Lease) × (live_at n e.t rows ≡ Some l)
