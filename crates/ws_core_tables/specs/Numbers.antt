-- The greatest time, serial and numbers of a history, as a record (own).
use Rattle.std.specs.Prelude.{max, Bool, true, false, List, [], ◌∷◌}
use Rattle.ws_model.specs.declared.event.Event.{Event}
use Rattle.ws_model.specs.Moment.{time, serial, intent_number, version_number, time_in, serial_in, intent_number_in, version_number_in, last_time, last_serial, last_intent, last_version, asked_number, fetched_number}
use Rattle.ws_core_tables.specs.declared.numbers.Greatest.{Greatest}
use Rattle.ws_core_tables.specs.declared.numbers.Numbers.{Numbers}

abbrev pub is_begun : List Event → Bool
is_begun [] = false
is_begun (e ∷ h) = true

-- of the events alone
abbrev pub own_of : List Event → Greatest
own_of h = record { time = last_time h; serial = last_serial h; intent = last_intent h; version = last_version h }

-- with what a Tally carries
abbrev pub all_of : List Event → Greatest
all_of h = record { time = time h; serial = serial h; intent = intent_number h; version = version_number h }

abbrev pub numbers_of : List Event → Numbers
numbers_of h = record { begun = is_begun h; own = own_of h; all = all_of h }

-- ---- one event more

abbrev pub own_in : Event → Greatest
own_in e = record { time = e.t; serial = e.serial; intent = asked_number e.what; version = fetched_number e.what }

abbrev pub all_in : Event → Greatest
all_in e = record { time = time_in e e.what; serial = serial_in e e.what; intent = intent_number_in e.what; version = version_number_in e.what }

abbrev pub greater : Greatest → Greatest → Greatest
greater a b = record { time = max a.time b.time; serial = max a.serial b.serial; intent = max a.intent b.intent; version = max a.version b.version }

abbrev pub with_event : Event → Numbers → Numbers
with_event e n = record { begun = true; own = greater (own_in e) n.own; all = greater (all_in e) n.all }
