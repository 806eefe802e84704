-- The intents and the reasons of owed notices, and the intents of live leases.
use Rattle.std.proofs.Common.{◌≡◌, ℕ, ◌<◌, ◌^◌, true, ◌&&◌, List, [], ◌∷◌, refl, ap, ◌∙◌, arith}
use Rattle.std.specs.Prelude.{Option, Some, None, find, map, min, nat_le, nat_lt, ◌==◌}
use Rattle.std.specs.Option.{option_map}
use Rattle.std.proofs.lemmas.Bool.{and_parts, eqb-true, ltb-true}
use Rattle.ws_model.specs.declared.event.Event.{Event}
use Rattle.ws_model.specs.declared.event.Intent.{Intent}
use Rattle.ws_model.specs.declared.event.What.{What}
use Rattle.ws_model.specs.declared.event.What.TheVariants.{Tally}
use Rattle.ws_model.specs.Intents.{notices}
use Rattle.ws_model.specs.Legal.{Legal, accepts_what, is_allowed, is_first_tally, is_in_order, is_sound, number_limit, time_limit}
use Rattle.ws_model.specs.Moment.{last_serial, last_time, time, time_in}
use Rattle.ws_model.specs.View.{OwedNotice, owed_notice}
use Rattle.ws_laws.proofs.ListLaws.{find-map}
use Rattle.ws_intent.specs.declared.rows.Denial.{Denial}
use Rattle.ws_intent.specs.Rows.{Rows as IntentRows, number_at}
use Rattle.ws_intent.specs.Stands.{StandsFor as IntentsStand, as_notice}

-- ---- notices

denied_of : (o : Option Denial) → option_map (λ d. d.intent) o ≡ option_map (λ w. w.intent) (option_map as_notice o)
denied_of None = refl
denied_of (Some d) = refl

reason_of : (o : Option Denial) → option_map (λ d. d.reason) o ≡ option_map (λ w. w.reason) (option_map as_notice o)
reason_of None = refl
reason_of (Some d) = refl

intent_kept : (h : List Event) (o : Option Intent) → option_map (λ w. w.intent) (option_map (owed_notice h) o) ≡ o
intent_kept h None = refl
intent_kept h (Some i) = refl

-- the intent of the owed notice of a number
pub denied_is : (h : List Event) (rows : IntentRows) (n : ℕ) → IntentsStand rows h → option_map (λ d. d.intent) (number_at n rows.notices) ≡ find (λ i. i.n == n) (notices h)
denied_is h rows n s =
    denied_of (number_at n rows.notices)
    ∙ ap (option_map (λ (w : OwedNotice). w.intent)) (s.notice_at n ∙ find-map (owed_notice h) (λ w. w.intent.n == n) (notices h))
    ∙ intent_kept h (find (λ i. i.n == n) (notices h))

-- and its reason
pub reason_is : (h : List Event) (rows : IntentRows) (n : ℕ) → IntentsStand rows h → option_map (λ d. d.reason) (number_at n rows.notices) ≡ option_map (λ w. w.reason) (find (λ w. w.intent.n == n) (map (owed_notice h) (notices h)))
reason_is h rows n s = reason_of (number_at n rows.notices) ∙ ap (option_map (λ (w : OwedNotice). w.reason)) (s.notice_at n)

-- ---- the greatest time

ordered_small : (e : Event) (h : List Event) (w : What) → (is_in_order e h && is_sound e.serial w && is_allowed w e.t h) ≡ true → e.t < 2 ^ 48
ordered_small e h w k =
    let a = (and_parts (is_in_order e h && is_sound e.serial w) (is_allowed w e.t h) k).0 in
    let b = (and_parts (is_in_order e h) (is_sound e.serial w) a).0 in
    ltb-true e.t time_limit (and_parts (nat_lt (last_serial h) e.serial && nat_lt e.serial number_limit && nat_le (last_time h) e.t) (nat_lt e.t time_limit) b).1

event_small : (e : Event) (h : List Event) (w : What) → accepts_what e h w ≡ true → time_in e w < 2 ^ 48
event_small e [] (Tally c) k =
    let p = and_parts (is_first_tally e []) (is_sound e.serial (Tally c)) k in
    let now : c.now < 2 ^ 48 = ltb-true c.now time_limit (and_parts (nat_lt c.now time_limit) _ (and_parts (nat_lt c.now time_limit && nat_lt c.serial number_limit) _ (and_parts (nat_lt c.now time_limit && nat_lt c.serial number_limit && nat_lt c.intent number_limit) _ p.1).0).0).0 in
    let t : e.t ≡ 0 = eqb-true e.t 0 (and_parts (e.serial == 0) (e.t == 0) p.0).1 in
    omega arith
event_small e (f ∷ h) (Tally c) k = absurd (grind arith)
event_small e h w k = ordered_small e h w k

-- it is within its limit
pub time_small : (h : List Event) → Legal h → time h < 2 ^ 48
time_small [] l = omega arith
time_small (e ∷ h) l = let a = event_small e h e.what l.1 in let b = time_small h l.0 in omega arith

pub time_kept : (h : List Event) → Legal h → min (time h) 281474976710655 ≡ time h
time_kept h l = let a = time_small h l in omega arith
