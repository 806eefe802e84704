-- What a desk has seen, and when it did so (own).
use Rattle.std.specs.Prelude.{ℕ, List}
use Rattle.ws_model.specs.declared.event.Event.{Event}
use Rattle.ws_model.specs.declared.settings.Settings.{Settings}
use Rattle.ws_desk.specs.declared.owner.Desk.{Desk}
use Rattle.ws_desk.specs.Holds.{Holds}

-- a history for which the desk stands
abbrev pub Seen : Desk → List Event → Type 0
Seen desk h = Holds desk.core desk.used desk.count h

-- the history that it was given, newest first
abbrev pub past_of : Desk → List Event
past_of desk = desk.past.events

-- the last hub time that it used
abbrev pub moment_of : Desk → ℕ
moment_of desk = desk.used

abbrev pub settings_of : Desk → Settings
settings_of desk = desk.settings
