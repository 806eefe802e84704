-- For which history a table of open pairs stands (own).
use Rattle.std.specs.Prelude.{◌≡◌, ℕ, ◌≤◌, Bool, true, false, List, [], ◌∷◌, map, find, ◌==◌, ◌&&◌, Option}
use Rattle.std.specs.Option.{option_map}
use Rattle.ws_model.specs.declared.event.Event.{Event}
use Rattle.ws_model.specs.declared.event.What.{What}
use Rattle.ws_model.specs.declared.event.What.TheVariants.{Confirmed, Fetched, Pushed, Revoked}
use Rattle.ws_model.specs.Moment.{last_time}
use Rattle.ws_model.specs.Leases.{expiry, confirmed_intent}
use Rattle.ws_model.specs.Pairs.{owed}
use Rattle.ws_model.specs.Legal.{Legal}
use Rattle.ws_model.specs.View.{OwedPush, owed_push, view}
use Rattle.ws_laws.specs.Steps.{owed_after}
use Rattle.ws_delivery.specs.declared.open_pair.OpenPair.{OpenPair}
use Rattle.ws_delivery.specs.Table.{Rows, owed_at}

-- what a table shows of an owed pair
abbrev pub shown : OwedPush → OpenPair
shown w = record { tries = w.tries; next = w.next; exp = expiry w.lease }

-- it is of this version and this lease
abbrev pub is_pair : ℕ → ℕ → OwedPush → Bool
is_pair v n w = (w.version.ver == v) && (w.lease.intent.n == n)

-- what a table shows of the pair of this version and this lease, where it is one of these
abbrev pub shown_of : ℕ → ℕ → List OwedPush → Option OpenPair
shown_of v n ws = option_map shown (find (is_pair v n) ws)

-- From the moment `since` on, which isn't before the last event of the history, the pairs that are owed
-- in the table are the history's, with their misses, their next tries and the ends of their leases.
pub record StandsFor (h : List Event) (since : ℕ) (rows : Rows) : Type 0 where
  pub begun : last_time h ≤ since
  pub shows : (t v n : ℕ) → since ≤ t → owed_at t v n rows ≡ shown_of v n (map (owed_push h) (owed h t))

-- at the moment of an event, the table has the owed pairs after it
abbrev pub FollowsStep : Event → List Event → Rows → Type 0
FollowsStep e h rows = (v n : ℕ) → owed_at e.t v n rows ≡ shown_of v n (owed_after e.t e.what (confirmed_intent e.what h) (view h e.t))

-- the event makes and ends no pair, and no push of one was missed
abbrev pub is_quiet : What → Bool
is_quiet (Confirmed n sent) = false
is_quiet (Fetched v) = false
is_quiet (Pushed v n how) = false
is_quiet (Revoked n reason) = false
is_quiet _ = true

-- the empty table stands for the empty history
abbrev pub StandsEmpty : Type 0
StandsEmpty = StandsFor [] 0 []

-- a table that stands for a history from a moment on stands for it from any later moment on
abbrev pub StandsLater : Type 0
StandsLater = (h : List Event) (t u : ℕ) (rows : Rows) → StandsFor h t rows → t ≤ u → StandsFor h u rows

-- a table that has the owed pairs after an event, by the step of the view, stands for the history with it
abbrev pub StandsAfter : Type 0
StandsAfter = (h : List Event) (e : Event) (rows : Rows) → Legal (e ∷ h) → FollowsStep e h rows → StandsFor (e ∷ h) e.t rows

-- a table that stands for a history stands, as it is, for the history with any other event
abbrev pub StandsOn : Type 0
StandsOn = (h : List Event) (e : Event) (since : ℕ) (rows : Rows) → Legal (e ∷ h) → is_quiet e.what ≡ true → since ≤ e.t → StandsFor h since rows → StandsFor (e ∷ h) e.t rows
