-- Whether the ledger stands for some legal history, so that what it accepts can follow (own).
use Rattle.std.specs.Prelude.{ℕ, ◌≤◌, List}
use Rattle.ws_model.specs.declared.event.Event.{Event}
use Rattle.ws_model.specs.Legal.{Legal}
use Rattle.ws_model.specs.Moment.{last_time}
use Rattle.ws_ledger.specs.Rows.{Rows}
use Rattle.ws_ledger.specs.Stands.{StandsFor}

-- a legal history for which the ledger stands, from its last event on
pub record HasHistory (rows : Rows) : Type 0 where
  pub past : List Event
  pub since : ℕ
  pub stands : StandsFor past since rows
  pub legal : Legal past
  pub in_time : since ≤ last_time past
