-- For which world a port stands (own).
use Rattle.std.specs.Prelude.{◌≡◌, ℕ, List}
use Rattle.ws_model.specs.declared.event.Event.{Event}
use Rattle.ws_model.specs.declared.settings.Settings.{Settings}
use Rattle.ws_drive.specs.World.{World}

-- It has these settings, has used this hub time and has seen this history; and the clock is so.
pub record IsWorld {P : Type 0} (seen : P → List Event → Type 0) (settings : P → Settings) (moment : P → ℕ) (clock : ℕ) (port : P) (w : World) : Type 0 where
  pub set : settings port ≡ w.settings
  pub clock_is : clock ≡ w.clock
  pub used_is : moment port ≡ w.used
  pub has_seen : seen port w.history
