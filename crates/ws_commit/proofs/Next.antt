-- What may happen next, kind by kind.
use Rattle.std.proofs.Common.{◌≡◌, ℕ, suc, ◌≤◌, ◌<◌, Bool, true, cond, List, ◌∷◌, ◌++◌, max, refl, ap, sym, ◌∙◌, arith, Some}
use Rattle.std.specs.Prelude.{find, map, filter, nat_lt, nat_le, ◌==◌, ◌&&◌}
use Rattle.std.specs.List.{list_any}
use Rattle.std.proofs.lemmas.Bool.Decides.{nat_tests}
use Rattle.ws_model.specs.declared.event.Event.{Event}
use Rattle.ws_model.specs.declared.event.Intent.{Intent}
use Rattle.ws_model.specs.declared.event.What.{What}
use Rattle.ws_model.specs.declared.event.What.TheVariants.{Asked, Barred, Pinged, Revoked}
use Rattle.ws_model.specs.Intents.{intents_of, pending}
use Rattle.ws_model.specs.Leases.{is_on, live}
use Rattle.ws_model.specs.Legal.{Legal, accepts, is_in_order, is_key_text, is_on_one, is_sound_intent, is_text, number_limit, pending_of, time_limit}
use Rattle.ws_model.specs.Moment.{intent_number, last_intent, last_serial, last_time, serial, time}
use Rattle.ws_model.specs.View.{waiting}
use Rattle.ws_laws.specs.Steps.{found, stays_pending, unheard_more}
use Rattle.ws_laws.proofs.Known.{itself}
use Rattle.ws_laws.proofs.Moments.{last_intent_le, last_serial_le, last_time_le}
use Rattle.ws_laws.proofs.Step.{named_pending, pending_step}

-- the event that happens next
abbrev pub next : ℕ → What → List Event → Event
next t w h = record { serial = suc (serial h); t = t; what = w }

in_order : (past s bound before t limit : ℕ) → past ≤ s → suc s < bound → before ≤ t → t < limit → (nat_lt past (suc s) && nat_lt (suc s) bound && nat_le before t && nat_lt t limit) ≡ true
in_order past s bound before t limit a b c d = grind (arith, nat_tests)

not_earlier : (a b t : ℕ) → a ≤ b → b ≤ t → a ≤ t
not_earlier a b t k l = omega arith

pub next_in_order : (t : ℕ) (w : What) (h : List Event) → suc (serial h) < number_limit → time h ≤ t → t < time_limit → is_in_order (next t w h) h ≡ true
next_in_order t w h room k l = in_order (last_serial h) (serial h) number_limit (last_time h) t time_limit (last_serial_le h) room (not_earlier (last_time h) (time h) t (last_time_le h) k) l

pub all_three : (a b c : Bool) → a ≡ true → b ≡ true → c ≡ true → (a && b && c) ≡ true
all_three a b c k l m = rw (k, l, m) refl

-- ---- a request

above_last : (last all : ℕ) → last ≤ all → nat_lt last (suc all) ≡ true
above_last last all k = grind (arith, nat_tests)

pub asked_next : (t : ℕ) (i : Intent) (h : List Event) → suc (serial h) < number_limit → time h ≤ t → t < time_limit → i.n ≡ suc (intent_number h) → is_sound_intent i ≡ true → accepts h (next t (Asked i) h) ≡ true
asked_next t i h room k l n sound =
    all_three (is_in_order (next t (Asked i) h) h) (is_sound_intent i) (nat_lt (last_intent h) i.n) (next_in_order t (Asked i) h room k l) sound
    (ap (nat_lt (last_intent h)) n ∙ above_last (last_intent h) (intent_number h) (last_intent_le h))

-- ---- its denial

-- the intent that was asked for is pending
pub pending_now : (e : Event) (i : Intent) (h : List Event) → Legal h → accepts h e ≡ true → e.what ≡ Asked i → pending_of (e ∷ h) i.n ≡ Some i
pending_now e i h l k is =
    sym (named_pending (e ∷ h) i.n)
    ∙ ap (λ ws. found (λ w. w.intent) (find (λ w. w.intent.n == i.n) ws))
    (pending_step e h l k ∙ ap (λ w. map (λ j. record { intent = j; unheard = 0 }) (intents_of w) ++ map (unheard_more w) (filter (stays_pending w) (map (waiting h) (pending h)))) is)
    ∙ ap (λ b. found (λ w. w.intent) (cond b (Some (record { intent = i; unheard = 0 })) (find (λ w. w.intent.n == i.n) (map (unheard_more (Asked i)) (filter (stays_pending (Asked i)) (map (waiting h) (pending h))))))) (itself i.n)

pub barred_next : (t : ℕ) (i : Intent) (reason : List ℕ) (h : List Event) → suc (serial h) < number_limit → time h ≤ t → t < time_limit → is_text reason ≡ true → pending_of h i.n ≡ Some i → is_on i.mode ≡ true
    → accepts h (next t (Barred i.n reason) h) ≡ true
barred_next t i reason h room k l text here on =
    all_three (is_in_order (next t (Barred i.n reason) h) h) (is_text reason) (is_on_one (pending_of h i.n)) (next_in_order t (Barred i.n reason) h room k l) text (ap is_on_one here ∙ on)

-- ---- a ping

pub pinged_next : (t : ℕ) (topic : List ℕ) (h : List Event) → suc (serial h) < number_limit → time h ≤ t → t < time_limit → is_key_text topic ≡ true → accepts h (next t (Pinged topic) h) ≡ true
pinged_next t topic h room k l sound = all_three (is_in_order (next t (Pinged topic) h) h) (is_key_text topic) true (next_in_order t (Pinged topic) h room k l) sound refl

-- ---- a revocation

pub revoked_next : (t n : ℕ) (reason : List ℕ) (h : List Event) → suc (serial h) < number_limit → time h ≤ t → t < time_limit → is_text reason ≡ true → list_any (λ l. l.intent.n == n) (live h t) ≡ true → accepts h (next t (Revoked n reason) h) ≡ true
revoked_next t n reason h room k l text here =
    all_three (is_in_order (next t (Revoked n reason) h) h) (is_text reason) (list_any (λ l. l.intent.n == n) (live h t)) (next_in_order t (Revoked n reason) h room k l) text here

-- ---- the moment after

pub time_now : (a t : ℕ) → a ≤ t → max t a ≤ t
time_now a t k = omega arith

pub serial_now : (s : ℕ) → max (suc s) s ≡ suc s
serial_now s = omega arith
