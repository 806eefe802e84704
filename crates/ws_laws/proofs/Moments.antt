-- The greatest time, serial and numbers, with those of a Tally and without.
use Rattle.std.proofs.Common.{◌≡◌, ℕ, ◌≤◌, List, [], ◌∷◌, refl, arith}
use Rattle.ws_model.specs.declared.event.What.TheVariants.{Asked, Fetched, Tally}
use Rattle.ws_laws.specs.Steps.{IsNewlyNumbered}
use Rattle.ws_model.specs.Account.{tallies_of}
use Rattle.ws_model.specs.Moment.{asked_number, fetched_number, intent_number, intent_number_in, last_intent, last_serial, last_time, last_version, serial, serial_in, time, time_in, version_number, version_number_in}
use Rattle.ws_model.specs.declared.event.Event.{Event}
use Rattle.ws_model.specs.declared.event.What.{What}

time_one : (w : What) (s t : ℕ) → t ≤ time_in (record { serial = s; t = t; what = w }) w
time_one (Tally c) s t = omega arith
time_one _ s t = omega arith

pub last_time_le : (h : List Event) → last_time h ≤ time h
last_time_le [] = omega arith
last_time_le (e ∷ h) =
    let a : e.t ≤ time_in e e.what = time_one e.what e.serial e.t in
    let b : last_time h ≤ time h = last_time_le h in
    omega arith

serial_one : (w : What) (s t : ℕ) → s ≤ serial_in (record { serial = s; t = t; what = w }) w
serial_one (Tally c) s t = omega arith
serial_one _ s t = omega arith

pub last_serial_le : (h : List Event) → last_serial h ≤ serial h
last_serial_le [] = omega arith
last_serial_le (e ∷ h) =
    let a : e.serial ≤ serial_in e e.what = serial_one e.what e.serial e.t in
    let b : last_serial h ≤ serial h = last_serial_le h in
    omega arith

intent_one : (w : What) → asked_number w ≤ intent_number_in w
intent_one (Asked i) = omega arith
intent_one _ = omega arith

pub last_intent_le : (h : List Event) → last_intent h ≤ intent_number h
last_intent_le [] = omega arith
last_intent_le (e ∷ h) =
    let a : asked_number e.what ≤ intent_number_in e.what = intent_one e.what in
    let b : last_intent h ≤ intent_number h = last_intent_le h in
    omega arith

version_one : (w : What) → fetched_number w ≤ version_number_in w
version_one (Fetched v) = omega arith
version_one _ = omega arith

pub last_version_le : (h : List Event) → last_version h ≤ version_number h
last_version_le [] = omega arith
last_version_le (e ∷ h) =
    let a : fetched_number e.what ≤ version_number_in e.what = version_one e.what in
    let b : last_version h ≤ version_number h = last_version_le h in
    omega arith

-- ---- one more event that is no Tally

pub own_time : (w : What) (s t : ℕ) (h : List Event) → IsNewlyNumbered w h → time_in (record { serial = s; t = t; what = w }) w ≡ t
own_time (Tally c) s t h n = absurd n
own_time _ s t h n = refl

pub own_serial : (w : What) (s t : ℕ) (h : List Event) → IsNewlyNumbered w h → serial_in (record { serial = s; t = t; what = w }) w ≡ s
own_serial (Tally c) s t h n = absurd n
own_serial _ s t h n = refl

pub no_tally : (w : What) (h : List Event) → IsNewlyNumbered w h → tallies_of w ≡ []
no_tally (Tally c) h n = absurd n
no_tally _ h n = refl
