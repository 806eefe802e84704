-- What a compaction wouldn't keep, no later one keeps (own).
use Rattle.std.specs.Prelude.{◌≡◌, ℕ, ◌≤◌, true, List, ◌∷◌, ◌++◌}
use Rattle.ws_model.specs.declared.event.Event.{Event}
use Rattle.ws_model.specs.History.{has}
use Rattle.ws_model.specs.Keep.{keeps, kept_leases, member}
use Rattle.ws_model.specs.Leases.{is_confirmed}
use Rattle.ws_model.specs.Legal.{Legal}
use Rattle.ws_model.specs.Verdict.{is_kept_version}
use Rattle.ws_model.specs.Versions.{is_fetched}

-- ---- at a later moment

-- a version that is kept at a moment was kept at each earlier one
abbrev pub DropsVersionLater : Type 0
DropsVersionLater = (h : List Event) (t u v : ℕ) → t ≤ u → is_kept_version h u v ≡ true → is_kept_version h t v ≡ true

-- so was a lease
abbrev pub DropsLeaseLater : Type 0
DropsLeaseLater = (h : List Event) (t u n : ℕ) → Legal h → t ≤ u → member n (kept_leases h u) ≡ true → member n (kept_leases h t) ≡ true

-- and so was any event
abbrev pub DropsEventLater : Type 0
DropsEventLater = (h : List Event) (t u : ℕ) (x : Event) → Legal h → t ≤ u → keeps h u x x.what ≡ true → keeps h t x x.what ≡ true

-- ---- by one event, at its time: later it may keep what nothing kept then, as a renewal does with an owed version

-- a version of the history that is kept right after an event was kept right before it
abbrev pub DropsVersion : Type 0
DropsVersion = (h : List Event) (e : Event) (v : ℕ) → Legal (e ∷ h) → has (is_fetched v) h ≡ true → is_kept_version (e ∷ h) e.t v ≡ true → is_kept_version h e.t v ≡ true

-- so was a lease of the history
abbrev pub DropsLease : Type 0
DropsLease = (h : List Event) (e : Event) (n : ℕ) → Legal (e ∷ h) → has (is_confirmed n) h ≡ true → member n (kept_leases (e ∷ h) e.t) ≡ true → member n (kept_leases h e.t) ≡ true

-- and so was any event x of the history
abbrev pub DropsEvent : Type 0
DropsEvent = (c g : List Event) (x e : Event) → Legal (e ∷ c ++ x ∷ g) → keeps (e ∷ c ++ x ∷ g) e.t x x.what ≡ true → keeps (c ++ x ∷ g) e.t x x.what ≡ true
