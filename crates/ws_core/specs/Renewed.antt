-- The lease that an event renews (own).
use Rattle.std.specs.Prelude.{◌≡◌, ℕ, ◌≤◌, List, [], ◌∷◌, Option, Some, None}
use Rattle.ws_model.specs.declared.event.Event.{Event}
use Rattle.ws_model.specs.Leases.{confirmed_intent, lease_of, live}
use Rattle.ws_model.specs.Legal.{Legal}
use Rattle.ws_kept.specs.declared.renewal.Renewal.{Renewal}
use Rattle.ws_kept.specs.Stands.{replaces}
use Rattle.ws_ledger.specs.Rows.{Rows as LedgerRows}
use Rattle.ws_ledger.specs.Stands.{StandsFor as LedgerStands}

-- a list of one, or of none

abbrev pub listed : {X : Type 0} → Option X → List X
listed None = []
listed (Some x) = x ∷ []

-- the new lease that the event makes, with what was asked for the one that it replaces, for each history that the ledger stands for
abbrev pub FindsOld : Event → LedgerRows → Option Renewal → Type 0
FindsOld e rows found = (h : List Event) (since : ℕ) → LedgerStands h since rows → Legal (e ∷ h) → since ≤ e.t → listed found ≡ replaces (live h e.t) (lease_of e.what (confirmed_intent e.what h))
