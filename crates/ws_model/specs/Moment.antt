-- The greatest time, serial and numbers of a history (own).
use Rattle.std.specs.Prelude.{ℕ, max, List, [], ◌∷◌}
use Rattle.ws_model.specs.declared.event.Event.{Event}
use Rattle.ws_model.specs.declared.event.What.{What}
use Rattle.ws_model.specs.declared.event.What.TheVariants.{Asked, Fetched, Tally}

-- ---- with those that a Tally carries: new events come at or after this time, and are numbered above these

abbrev pub time_in : Event → What → ℕ
time_in e (Tally c) = max e.t c.now
time_in e _ = e.t

-- the time of a history: the greatest of its times, or 0
abbrev pub time : List Event → ℕ
time [] = 0
time (e ∷ h) = max (time_in e e.what) (time h)

abbrev pub serial_in : Event → What → ℕ
serial_in e (Tally c) = max e.serial c.serial
serial_in e _ = e.serial

-- the greatest serial, or 0
abbrev pub serial : List Event → ℕ
serial [] = 0
serial (e ∷ h) = max (serial_in e e.what) (serial h)

abbrev pub intent_number_in : What → ℕ
intent_number_in (Asked i) = i.n
intent_number_in (Tally c) = c.intent
intent_number_in _ = 0

-- the greatest number of an intent, or 0
abbrev pub intent_number : List Event → ℕ
intent_number [] = 0
intent_number (e ∷ h) = max (intent_number_in e.what) (intent_number h)

abbrev pub version_number_in : What → ℕ
version_number_in (Fetched v) = v.ver
version_number_in (Tally c) = c.version
version_number_in _ = 0

-- the greatest number of a version, or 0
abbrev pub version_number : List Event → ℕ
version_number [] = 0
version_number (e ∷ h) = max (version_number_in e.what) (version_number h)

-- ---- of the events' own alone: what a Tally carries is left out, since it is followed by events that are older than it

-- the greatest time of an event, or 0
abbrev pub last_time : List Event → ℕ
last_time [] = 0
last_time (e ∷ h) = max e.t (last_time h)

-- the greatest serial of an event, or 0
abbrev pub last_serial : List Event → ℕ
last_serial [] = 0
last_serial (e ∷ h) = max e.serial (last_serial h)

abbrev pub asked_number : What → ℕ
asked_number (Asked i) = i.n
asked_number _ = 0

-- the greatest number of an Asked, or 0
abbrev pub last_intent : List Event → ℕ
last_intent [] = 0
last_intent (e ∷ h) = max (asked_number e.what) (last_intent h)

abbrev pub fetched_number : What → ℕ
fetched_number (Fetched v) = v.ver
fetched_number _ = 0

-- the greatest number of a Fetched, or 0
abbrev pub last_version : List Event → ℕ
last_version [] = 0
last_version (e ∷ h) = max (fetched_number e.what) (last_version h)
