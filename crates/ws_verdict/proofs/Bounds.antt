-- Sums and their limits, and the numbers of versions.
use Rattle.std.proofs.Common.{◌≡◌, ◌≤◌, ◌<◌, ◌+◌, ◌-◌, ℕ, Bool, true, false, List, [], ◌∷◌, max, arith, refl}
use Rattle.std.specs.Prelude.{min, nat_lt, nat_le, ◌||◌, ◌&&◌, ◌==◌, length}
use Rattle.std.proofs.lemmas.Bool.{and_parts, ltb-true}
use Rattle.std.proofs.lemmas.Bool.Decides.{nat_tests}
use Rattle.ws_model.specs.declared.event.Event.{Event}
use Rattle.ws_model.specs.declared.event.Version.{Version}
use Rattle.ws_model.specs.declared.event.What.{What}
use Rattle.ws_model.specs.declared.event.What.TheVariants.{Fetched, Tally}
use Rattle.ws_model.specs.declared.event.Tally.{Tally as TallyFields}
use Rattle.ws_model.specs.Legal.{Legal, body_limit, is_key_text, is_link, is_media, is_sound, is_sound_tally, is_sound_version, is_text, number_limit, time_limit}
use Rattle.ws_model.specs.Moment.{version_number, version_number_in}
use Rattle.ws_laws.proofs.Known.{sound}

-- a sum that is cut off above the limit passes it as the whole sum does
pub cut_off : (limit most a b : ℕ) → limit < most → nat_lt limit (min (a + b) most) ≡ nat_lt limit (a + b)
cut_off limit most a b k = grind (arith, nat_tests)

pub within : (limit most b held kept : ℕ) → limit < most → min (held + b) most ≤ limit → kept ≤ held → nat_lt limit (b + kept) ≡ false
within limit most b held kept k l m = grind (arith, nat_tests)

pub turned_sum : (limit a b : ℕ) → nat_lt limit (a + b) ≡ nat_lt limit (b + a)
turned_sum limit a b = grind (arith, nat_tests)

pub or_second : (a b : Bool) → b ≡ true → (a || b) ≡ true
or_second true b k = refl
or_second false b k = k

pub or_first : (a b : Bool) → b ≡ false → (a || b) ≡ a
or_first true b k = refl
or_first false b k = k

-- ---- the numbers of versions of a legal history

fetched_below : (v : Version) → is_sound_version v ≡ true → v.ver < number_limit
fetched_below v k =
    let a = and_parts (nat_lt v.ver number_limit && is_key_text v.topic && is_text v.media && is_media v.media && is_text v.own_link && is_link v.own_link) (nat_le (length v.body) body_limit) k in
    let b = and_parts (nat_lt v.ver number_limit && is_key_text v.topic && is_text v.media && is_media v.media && is_text v.own_link) (is_link v.own_link) a.0 in
    let d = and_parts (nat_lt v.ver number_limit && is_key_text v.topic && is_text v.media && is_media v.media) (is_text v.own_link) b.0 in
    let e = and_parts (nat_lt v.ver number_limit && is_key_text v.topic && is_text v.media) (is_media v.media) d.0 in
    let f = and_parts (nat_lt v.ver number_limit && is_key_text v.topic) (is_text v.media) e.0 in
    ltb-true _ _ (and_parts (nat_lt v.ver number_limit) (is_key_text v.topic) f.0).0

tally_below : (c : TallyFields) → is_sound_tally c ≡ true → c.version < number_limit
tally_below c k = ltb-true _ _ (and_parts (nat_lt c.now time_limit && nat_lt c.serial number_limit && nat_lt c.intent number_limit) (nat_lt c.version number_limit) k).1

positive : 0 < number_limit
positive = omega arith

below_in : (s : ℕ) (v : Version) → (is_sound_version v && nat_lt v.upto s) ≡ true → v.ver < number_limit
below_in s v k = fetched_below v (and_parts (is_sound_version v) (nat_lt v.upto s) k).0

number_below : (s : ℕ) (w : What) → is_sound s w ≡ true → version_number_in w < number_limit
number_below s (Fetched v) k = below_in s v k
number_below s (Tally c) k = tally_below c k
number_below s _ k = positive

both_below : (a b m : ℕ) → a < m → b < m → max a b < m
both_below a b m x y = omega arith

version_below : (h : List Event) → Legal h → version_number h < number_limit
version_below [] l = positive
version_below (e ∷ h) l = both_below (version_number_in e.what) (version_number h) number_limit (number_below e.serial e.what (sound h e l.1)) (version_below h l.0)

last_of : (limit held k : ℕ) → held ≡ k → k < limit → limit - 1 ≤ held → (k == limit - 1) ≡ true
last_of limit held k e a b = grind (arith, nat_tests)

pub is_last : (h : List Event) (held : ℕ) → Legal h → held ≡ version_number h → number_limit - 1 ≤ held → (version_number h == number_limit - 1) ≡ true
is_last h held l e k = last_of number_limit held (version_number h) e (version_below h l) k

pub not_last : (limit held k : ℕ) → held ≡ k → held < limit → (k == limit) ≡ false
not_last limit held k e a = grind (arith, nat_tests)
