-- Whether there is room, by the numbers that are held.
use Rattle.std.proofs.Common.{◌≡◌, ◌≤◌, ◌<◌, ◌+◌, ◌-◌, ℕ, true, false, List, [], ◌∷◌, max, arith}
use Rattle.std.specs.Prelude.{nat_lt, nat_le, ◌==◌, ◌&&◌, length}
use Rattle.std.proofs.lemmas.Bool.{and_parts, ltb-true}
use Rattle.std.proofs.lemmas.Bool.Decides.{nat_tests}
use Rattle.ws_model.specs.declared.event.Event.{Event}
use Rattle.ws_model.specs.declared.event.Intent.{Intent}
use Rattle.ws_model.specs.declared.event.What.{What}
use Rattle.ws_model.specs.declared.event.What.TheVariants.{Asked, Tally}
use Rattle.ws_model.specs.declared.event.Tally.{Tally as TallyFields}
use Rattle.ws_model.specs.Legal.{Legal, is_grant, is_key_text, is_sound, is_sound_intent, is_sound_tally, is_text, number_limit, secret_limit, time_limit}
use Rattle.ws_model.specs.Moment.{intent_number, intent_number_in}
use Rattle.ws_laws.proofs.Known.{sound}

pub full_many : (limit held k asked : ℕ) → held ≡ k → asked ≤ limit → limit - asked < held → nat_lt limit (k + asked) ≡ true
full_many limit held k asked e a b = grind (arith, nat_tests)

pub room_many : (limit held k asked : ℕ) → held ≡ k → asked ≤ limit → held ≤ limit - asked → nat_lt limit (k + asked) ≡ false
room_many limit held k asked e a b = grind (arith, nat_tests)

pub full_one : (limit held k : ℕ) → held ≡ k → limit ≤ held → nat_lt limit (k + 1) ≡ true
full_one limit held k e a = grind (arith, nat_tests)

pub room_one : (limit held k : ℕ) → held ≡ k → held < limit → nat_lt limit (k + 1) ≡ false
room_one limit held k e a = grind (arith, nat_tests)

pub last_one : (limit held k : ℕ) → held ≡ k → k ≤ limit → limit ≤ held → (k == limit) ≡ true
last_one limit held k e a b = grind (arith, nat_tests)

pub not_last : (limit held k : ℕ) → held ≡ k → held < limit → (k == limit) ≡ false
not_last limit held k e a = grind (arith, nat_tests)

-- ---- the numbers of intents of a legal history

asked_below : (i : Intent) → is_sound_intent i ≡ true → i.n < number_limit
asked_below i k =
    let a = and_parts (nat_lt i.n number_limit && is_key_text i.topic && is_key_text i.callback && is_text i.echo && nat_le (length i.secret) secret_limit) (is_grant i) k in
    let b = and_parts (nat_lt i.n number_limit && is_key_text i.topic && is_key_text i.callback && is_text i.echo) (nat_le (length i.secret) secret_limit) a.0 in
    let d = and_parts (nat_lt i.n number_limit && is_key_text i.topic && is_key_text i.callback) (is_text i.echo) b.0 in
    let e = and_parts (nat_lt i.n number_limit && is_key_text i.topic) (is_key_text i.callback) d.0 in
    ltb-true _ _ (and_parts (nat_lt i.n number_limit) (is_key_text i.topic) e.0).0

tally_below : (c : TallyFields) → is_sound_tally c ≡ true → c.intent < number_limit
tally_below c k =
    let a = and_parts (nat_lt c.now time_limit && nat_lt c.serial number_limit && nat_lt c.intent number_limit) (nat_lt c.version number_limit) k in
    ltb-true _ _ (and_parts (nat_lt c.now time_limit && nat_lt c.serial number_limit) (nat_lt c.intent number_limit) a.0).1

positive : 0 < number_limit
positive = omega arith

below_in : (s : ℕ) (w : What) → is_sound s w ≡ true → intent_number_in w < number_limit
below_in s (Asked i) k = asked_below i k
below_in s (Tally c) k = tally_below c k
below_in s _ k = positive

both_below : (a b m : ℕ) → a < m → b < m → max a b < m
both_below a b m x y = omega arith

intent_below : (h : List Event) → Legal h → intent_number h < number_limit
intent_below [] l = positive
intent_below (e ∷ h) l = both_below (intent_number_in e.what) (intent_number h) number_limit (below_in e.serial e.what (sound h e l.1)) (intent_below h l.0)

pub within_last : (h : List Event) → Legal h → intent_number h ≤ number_limit - 1
within_last h l = let below = intent_below h l in omega arith
