-- For which history a desk stands (own).
use Rattle.std.specs.Prelude.{◌≡◌, ℕ, ◌≤◌, List, length}
use Rattle.ws_model.specs.declared.event.Event.{Event}
use Rattle.ws_model.specs.Legal.{Legal}
use Rattle.ws_model.specs.Moment.{time}
use Rattle.ws_core.specs.Rows.{Rows}
use Rattle.ws_core.specs.Stands.{StandsFor}

-- The core stands for the history from the last hub time that was used on. The history is legal, no later than that time, and as long as
-- was counted.
pub record Holds (core : Rows) (used count : ℕ) (h : List Event) : Type 0 where
  pub stands : StandsFor h used core
  pub legal : Legal h
  pub in_time : time h ≤ used
  pub counted : length h ≡ count
