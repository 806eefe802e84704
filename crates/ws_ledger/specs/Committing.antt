-- What happens together, and ends and makes no pair (own).
use Rattle.std.specs.Prelude.{ℕ, ◌≤◌, Bool, List}
use Rattle.std.specs.List.{list_all}
use Rattle.ws_model.specs.declared.event.Event.{Event}
use Rattle.ws_model.specs.declared.event.What.{What}
use Rattle.ws_model.specs.Legal.{Legal}
use Rattle.ws_fate.specs.Stands.{is_quiet}
use Rattle.ws_core_tables.specs.Committing.{committed}
use Rattle.ws_ledger.specs.Rows.{Rows}
use Rattle.ws_ledger.specs.Stands.{StandsFor}

abbrev pub are_quiet : List What → Bool
are_quiet whats = list_all is_quiet whats

-- what stands for a history goes over to what stands for the history with all that happens at t
abbrev pub AllGoOn : ℕ → List What → Rows → Rows → Type 0
AllGoOn t whats old new = (h : List Event) (since : ℕ) → StandsFor h since old → Legal (committed t whats h) → since ≤ t → StandsFor (committed t whats h) t new

-- a history for which the ledger stands, and after which this may happen at t, one after the other
pub record CanHappen (rows : Rows) (t : ℕ) (whats : List What) : Type 0 where
  pub past : List Event
  pub since : ℕ
  pub stands : StandsFor past since rows
  pub legal : Legal (committed t whats past)
  pub in_time : since ≤ t
