-- The owed fetches and the latest versions of a history, by topic.
use Rattle.std.proofs.Common.{◌≡◌, ℕ, suc, ◌≤◌, ◌<◌, Bool, true, false, cond, not, ◌&&◌, List, [], ◌∷◌, refl, ap, sym, ◌∙◌, subst, arith}
use Rattle.std.specs.Prelude.{Option, Some, None, find, filter, map, option_map, nat_lt, nat_le, bytes_eq}
use Rattle.std.specs.List.{AllByRecursion}
use Rattle.std.proofs.lemmas.Bool.Decides.{nat_tests}
use Rattle.std.proofs.lemmas.Bool.{and_parts, false≢true, ltb-true}
use Rattle.ws_model.specs.declared.event.Event.{Event}
use Rattle.ws_model.specs.declared.event.Version.{Version}
use Rattle.ws_model.specs.declared.event.What.{What}
use Rattle.ws_model.specs.declared.event.What.TheVariants.{Fetched, Pinged, Same, Unfetched, Tally}
use Rattle.ws_model.specs.History.{has}
use Rattle.ws_model.specs.Legal.{Legal, accepts, accepts_what, is_allowed, is_first_tally, is_in_order, is_sound, number_limit, time_limit}
use Rattle.ws_model.specs.Moment.{last_serial, last_time}
use Rattle.ws_model.specs.Versions.{Ping, fetches, is_answer, is_owed_fetch, is_ping_at, latest, latest_of, missed_fetches, pings}
use Rattle.ws_model.specs.View.{OwedFetch as FetchView, owed_fetch}
use Rattle.ws_laws.specs.Steps.{fetches_after, latest_after, missed_more, unanswered}
use Rattle.ws_laws.proofs.ListLaws.{all_filter, all_filter_with, all_from, all_map, all_weaker, find-filter}
use Rattle.ws_laws.proofs.Topics.{fetches_step, latest_step}
use Rattle.ws_topic.proofs.Keyed.{bytes_itself, same}
use Rattle.ws_topic.proofs.Ordered.{AreApart, turned}

abbrev pub fetch_list : List Event → List FetchView
fetch_list h = map (owed_fetch h) (fetches h)

abbrev pub fetch_topic : FetchView → List ℕ
fetch_topic f = f.topic

abbrev pub at_view : List ℕ → List FetchView → Option FetchView
at_view q fs = find (λ f. bytes_eq f.topic q) fs

-- ---- serials

in_order_serial : (e : Event) (h : List Event) (w : What) → (is_in_order e h && is_sound e.serial w && is_allowed w e.t h) ≡ true → last_serial h < e.serial
in_order_serial e h w k =
    let a = and_parts (is_in_order e h && is_sound e.serial w) (is_allowed w e.t h) k in
    let b = and_parts (is_in_order e h) (is_sound e.serial w) a.0 in
    let c = and_parts (nat_lt (last_serial h) e.serial && nat_lt e.serial number_limit && nat_le (last_time h) e.t) (nat_lt e.t time_limit) b.0 in
    let d = and_parts (nat_lt (last_serial h) e.serial && nat_lt e.serial number_limit) (nat_le (last_time h) e.t) c.0 in
    ltb-true (last_serial h) e.serial (and_parts (nat_lt (last_serial h) e.serial) (nat_lt e.serial number_limit) d.0).0

abbrev pub is_tally : What → Bool
is_tally (Tally c) = true
is_tally _ = false

pub new_serial : (e : Event) (h : List Event) (w : What) → accepts_what e h w ≡ true → is_tally w ≡ false → last_serial h < e.serial
new_serial e h (Tally c) k n = absurd (false≢true (sym n))
new_serial e h w k n = in_order_serial e h w k

pub fetches_then : (e : Event) (h : List Event) → Legal (e ∷ h) → is_tally e.what ≡ false → fetch_list (e ∷ h) ≡ fetches_after e.serial e.what (fetch_list h)
fetches_then e h l n = fetches_step e h l.0 (new_serial e h e.what l.1 n)

-- ---- no two owed fetches are of one topic

apart_filter : {X : Type 0} (topic : X → List ℕ) (p : X → Bool) (xs : List X) → AreApart topic xs → AreApart topic (filter p xs)
apart_filter topic p [] a = tt
apart_filter {X = X} topic p (x ∷ xs) a = by (p x) (apart_filter topic p xs a.1)
  where
    by : (b : Bool) → AreApart topic (filter p xs) → AreApart topic (cond b (x ∷ filter p xs) (filter p xs))
    by true r = (all_filter (λ (y : X). bytes_eq (topic y) (topic x) ≡ false) p xs a.0, r)
    by false r = r

apart_map : (f : FetchView → FetchView) → ((x : FetchView) → (f x).topic ≡ x.topic) → (xs : List FetchView) → AreApart fetch_topic xs → AreApart fetch_topic (map f xs)
apart_map f e [] a = tt
apart_map f e (x ∷ xs) a = (
  all_map (λ (y : FetchView). bytes_eq y.topic (f x).topic ≡ false) f xs (all_weaker (λ (y : FetchView). bytes_eq y.topic x.topic ≡ false) (λ (y : FetchView). bytes_eq (f y).topic (f x).topic ≡ false) (λ y k. ap (λ t. bytes_eq t (f x).topic) (e y) ∙ ap (bytes_eq y.topic) (e x) ∙ k) xs a.0),
  apart_map f e xs a.1,
)

not_true : (b : Bool) → not b ≡ true → b ≡ false
not_true true k = absurd (false≢true k)
not_true false k = refl

-- one more, in place of all of its topic
apart_in_place : {X : Type 0} (topic : X → List ℕ) (x : X) (xs : List X) → AreApart topic xs → AreApart topic (x ∷ filter (λ y. not (bytes_eq (topic x) (topic y))) xs)
apart_in_place {X = X} topic x xs a = (
  all_weaker (λ (y : X). Unit {0} × (not (bytes_eq (topic x) (topic y)) ≡ true)) (λ (y : X). bytes_eq (topic y) (topic x) ≡ false) (λ y k. turned (topic y) (topic x) ∙ not_true (bytes_eq (topic x) (topic y)) k.1) (filter (λ y. not (bytes_eq (topic x) (topic y))) xs)
      (all_filter_with (λ (y : X). Unit {0}) (λ y. not (bytes_eq (topic x) (topic y))) xs (all_from (λ (y : X). Unit {0}) (λ y. tt) xs)),
  apart_filter topic (λ y. not (bytes_eq (topic x) (topic y))) xs a,
)

fetches_after_apart : (s : ℕ) (w : What) (fs : List FetchView) → AreApart fetch_topic fs → AreApart fetch_topic (fetches_after s w fs)
fetches_after_apart s (Pinged topic) fs a = apart_in_place fetch_topic (record { topic = topic; serial = s; missed = 0 }) fs a
fetches_after_apart s (Fetched x) fs a = apart_filter fetch_topic (unanswered x.topic x.upto) fs a
fetches_after_apart s (Same topic upto) fs a = apart_filter fetch_topic (unanswered topic upto) fs a
fetches_after_apart s (Unfetched topic upto why) fs a = apart_filter fetch_topic (λ f. nat_lt f.missed 3) (map (missed_more topic) fs) (apart_map (missed_more topic) (λ x. refl) fs a)
fetches_after_apart s _ fs a = a

first_only : (e : Event) (h : List Event) (w : What) → accepts_what e h w ≡ true → is_tally w ≡ true → e.what ≡ w → AreApart fetch_topic (fetch_list (e ∷ h))
first_only e [] (Tally c) k t is = subst (λ v. AreApart fetch_topic (fetch_list (record { serial = e.serial; t = e.t; what = v } ∷ []))) (sym is) tt
first_only e (f ∷ h) (Tally c) k t is = absurd (false≢true k)
first_only e h _ k t is = absurd (false≢true t)

pub fetches_apart : (h : List Event) → Legal h → AreApart fetch_topic (fetch_list h)
fetches_apart [] l = tt
fetches_apart (e ∷ h) l = by (is_tally e.what) refl (fetches_apart h l.0)
  where
    by : (b : Bool) → is_tally e.what ≡ b → AreApart fetch_topic (fetch_list h) → AreApart fetch_topic (fetch_list (e ∷ h))
    by true t a = first_only e h e.what l.1 t refl
    by false t a = subst (AreApart fetch_topic) (sym (fetches_then e h l t)) (fetches_after_apart e.serial e.what (fetch_list h) a)

-- fewer than three were missed
abbrev pub IsFew : FetchView → Type 0
IsFew f = nat_lt f.missed 3 ≡ true

pub fetches_few : (h : List Event) → AllByRecursion IsFew (fetch_list h)
fetches_few h =
    all_map IsFew (owed_fetch h) (fetches h)
    (all_weaker (λ (p : Ping). Unit {0} × (is_owed_fetch h p ≡ true)) (λ (p : Ping). IsFew (owed_fetch h p))
    (λ p k. (and_parts (is_ping_at p.serial (find (λ q. bytes_eq q.topic p.topic) (pings h)) && not (has (is_answer p) h)) (nat_lt (missed_fetches p.topic h) 3) k.1).1)
    (fetches h) (all_filter_with (λ (p : Ping). Unit {0}) (is_owed_fetch h) (pings h) (all_from (λ (p : Ping). Unit {0}) (λ p. tt) (pings h))))

-- ---- what stands at a topic after an event

none_there : (q : List ℕ) (fs : List FetchView) → AllByRecursion (λ (f : FetchView). bytes_eq f.topic q ≡ false) fs → at_view q fs ≡ None
none_there q [] a = refl
none_there q (f ∷ fs) a = ap (λ b. cond b (Some f) (at_view q fs)) a.0 ∙ none_there q fs a.1

rest_none : (q : List ℕ) (f : FetchView) (fs : List FetchView) → AllByRecursion (λ (g : FetchView). bytes_eq g.topic f.topic ≡ false) fs → bytes_eq f.topic q ≡ true → AllByRecursion (λ (g : FetchView). bytes_eq g.topic q ≡ false) fs
rest_none q f fs a e = subst (λ t. AllByRecursion (λ (g : FetchView). bytes_eq g.topic t ≡ false) fs) (same f.topic q e) a

skipped : (q : List ℕ) (f : FetchView) (u : Bool) (fs : List FetchView) → bytes_eq f.topic q ≡ false → at_view q (cond u (f ∷ fs) fs) ≡ at_view q fs
skipped q f true fs e = ap (λ b. cond b (Some f) (at_view q fs)) e
skipped q f false fs e = refl

pub pinged_at : (s : ℕ) (topic q : List ℕ) (fs : List FetchView) → at_view q (fetches_after s (Pinged topic) fs) ≡ cond (bytes_eq topic q) (Some (record { topic = topic; serial = s; missed = 0 })) (at_view q fs)
pinged_at s topic q fs = by (bytes_eq topic q) refl
  where
    by : (b : Bool) → bytes_eq topic q ≡ b → cond b (Some (record { topic = topic; serial = s; missed = 0 })) (at_view q (filter (λ f. not (bytes_eq topic f.topic)) fs)) ≡ cond b (Some (record { topic = topic; serial = s; missed = 0 })) (at_view q fs)
    by true e = refl
    by false e = find-filter (λ f. bytes_eq f.topic q) (λ f. not (bytes_eq topic f.topic)) true (λ f k. ap not (ap (bytes_eq topic) (same f.topic q k) ∙ e)) fs

abbrev pub answered_view : ℕ → Option FetchView → Option FetchView
answered_view upto None = None
answered_view upto (Some f) = cond (nat_le f.serial upto) None (Some f)

both_none : (b : Bool) → None ≡ cond {A = Option FetchView} b None None
both_none true = refl
both_none false = refl

pub answered_at : (topic : List ℕ) (upto : ℕ) (q : List ℕ) (fs : List FetchView) → AreApart fetch_topic fs → at_view q (filter (unanswered topic upto) fs) ≡ cond (bytes_eq topic q) (answered_view upto (at_view q fs)) (at_view q fs)
answered_at topic upto q [] a = both_none (bytes_eq topic q)
answered_at topic upto q (f ∷ fs) a = by (bytes_eq f.topic q) refl (answered_at topic upto q fs a.1)
  where
    here : (d : Bool) → bytes_eq f.topic q ≡ true → bytes_eq topic q ≡ d → (c : Bool) → nat_le f.serial upto ≡ c
        → at_view q (cond (not (d && c)) (f ∷ filter (unanswered topic upto) fs) (filter (unanswered topic upto) fs)) ≡ cond d (cond c None (Some f)) (Some f)
    here true e k true l = none_there q (filter (unanswered topic upto) fs) (all_filter (λ (g : FetchView). bytes_eq g.topic q ≡ false) (unanswered topic upto) fs (rest_none q f fs a.0 e))
    here true e k false l = ap (λ b. cond b (Some f) (at_view q (filter (unanswered topic upto) fs))) e
    here false e k c l = ap (λ b. cond b (Some f) (at_view q (filter (unanswered topic upto) fs))) e

    by : (b : Bool) → bytes_eq f.topic q ≡ b → at_view q (filter (unanswered topic upto) fs) ≡ cond (bytes_eq topic q) (answered_view upto (at_view q fs)) (at_view q fs)
        → at_view q (cond (unanswered topic upto f) (f ∷ filter (unanswered topic upto) fs) (filter (unanswered topic upto) fs)) ≡ cond (bytes_eq topic q) (answered_view upto (cond b (Some f) (at_view q fs))) (cond b (Some f) (at_view q fs))
    by true e r =
        ap (λ d. at_view q (cond (not (d && nat_le f.serial upto)) (f ∷ filter (unanswered topic upto) fs) (filter (unanswered topic upto) fs))) (ap (bytes_eq topic) (same f.topic q e))
        ∙ here (bytes_eq topic q) e refl (nat_le f.serial upto) refl
    by false e r = skipped q f (unanswered topic upto f) (filter (unanswered topic upto) fs) e ∙ r

abbrev pub missed_view : Option FetchView → Option FetchView
missed_view None = None
missed_view (Some f) = cond (nat_le 3 (suc f.missed)) None (Some (record { topic = f.topic; serial = f.serial; missed = suc f.missed }))

few_more : (m : ℕ) (b : Bool) → nat_le 3 (suc m) ≡ b → nat_lt (suc m) 3 ≡ not b
few_more m true e = grind (arith, nat_tests)
few_more m false e = grind (arith, nat_tests)

abbrev few : FetchView → Bool
few f = nat_lt f.missed 3

pub missed_at : (topic q : List ℕ) (fs : List FetchView) → AreApart fetch_topic fs → AllByRecursion IsFew fs → at_view q (filter few (map (missed_more topic) fs)) ≡ cond (bytes_eq topic q) (missed_view (at_view q fs)) (at_view q fs)
missed_at topic q [] a b = both_none (bytes_eq topic q)
missed_at topic q (f ∷ fs) a b = by (bytes_eq f.topic q) refl (missed_at topic q fs a.1 b.1)
  where
    rest : List FetchView
    rest = filter few (map (missed_more topic) fs)

    gone : bytes_eq f.topic q ≡ true → at_view q (filter few (map (missed_more topic) fs)) ≡ None
    gone e = none_there q (filter few (map (missed_more topic) fs)) (all_filter (λ (g : FetchView). bytes_eq g.topic q ≡ false) few (map (missed_more topic) fs) (all_map (λ (g : FetchView). bytes_eq g.topic q ≡ false) (missed_more topic) fs (rest_none q f fs a.0 e)))

    here : (d : Bool) → bytes_eq f.topic q ≡ true → (c : Bool) → nat_le 3 (suc f.missed) ≡ c
        → at_view q (cond (nat_lt (cond d (suc f.missed) f.missed) 3) (record { topic = f.topic; serial = f.serial; missed = cond d (suc f.missed) f.missed } ∷ filter few (map (missed_more topic) fs)) (filter few (map (missed_more topic) fs)))
        ≡ cond d (cond c None (Some (record { topic = f.topic; serial = f.serial; missed = suc f.missed }))) (Some f)
    here true e true l =
        ap (λ x. at_view q (cond x (record { topic = f.topic; serial = f.serial; missed = suc f.missed } ∷ filter few (map (missed_more topic) fs)) (filter few (map (missed_more topic) fs)))) (few_more f.missed true l)
        ∙ gone e
    here true e false l =
        ap (λ x. at_view q (cond x (record { topic = f.topic; serial = f.serial; missed = suc f.missed } ∷ filter few (map (missed_more topic) fs)) (filter few (map (missed_more topic) fs)))) (few_more f.missed false l)
        ∙ ap (λ x. cond x (Some (record { topic = f.topic; serial = f.serial; missed = suc f.missed })) (at_view q (filter few (map (missed_more topic) fs)))) e
    here false e c l =
        ap (λ x. at_view q (cond x (f ∷ filter few (map (missed_more topic) fs)) (filter few (map (missed_more topic) fs)))) b.0
        ∙ ap (λ x. cond x (Some f) (at_view q (filter few (map (missed_more topic) fs)))) e

    by : (x : Bool) → bytes_eq f.topic q ≡ x → at_view q (filter few (map (missed_more topic) fs)) ≡ cond (bytes_eq topic q) (missed_view (at_view q fs)) (at_view q fs)
        → at_view q (cond (few (missed_more topic f)) (missed_more topic f ∷ filter few (map (missed_more topic) fs)) (filter few (map (missed_more topic) fs))) ≡ cond (bytes_eq topic q) (missed_view (cond x (Some f) (at_view q fs))) (cond x (Some f) (at_view q fs))
    by true e r =
        ap (λ d. at_view q (cond (nat_lt (cond d (suc f.missed) f.missed) 3) (record { topic = f.topic; serial = f.serial; missed = cond d (suc f.missed) f.missed } ∷ filter few (map (missed_more topic) fs)) (filter few (map (missed_more topic) fs)))) (ap (bytes_eq topic) (same f.topic q e))
        ∙ here (bytes_eq topic q) e (nat_le 3 (suc f.missed)) refl
    by false e r = skipped q (missed_more topic f) (few (missed_more topic f)) (filter few (map (missed_more topic) fs)) e ∙ r

-- ---- the latest versions

abbrev pub version_topic : Version → List ℕ
version_topic v = v.topic

latest_after_apart : (w : What) (vs : List Version) → AreApart version_topic vs → AreApart version_topic (latest_after w vs)
latest_after_apart (Fetched x) vs a = apart_in_place version_topic x vs a
latest_after_apart _ vs a = a

pub latest_apart : (h : List Event) → Legal h → AreApart version_topic (latest h)
latest_apart [] l = tt
latest_apart (e ∷ h) l = subst (AreApart version_topic) (sym (latest_step e h l.1)) (latest_after_apart e.what (latest h) (latest_apart h l.0))

latest_one : (w : What) (s t : ℕ) (h : List Event) (q : List ℕ) → find (λ v. bytes_eq v.topic q) (latest h) ≡ latest_of q h → find (λ v. bytes_eq v.topic q) (latest_after w (latest h)) ≡ latest_of q (record { serial = s; t = t; what = w } ∷ h)
latest_one (Fetched x) s t h q r = by (bytes_eq x.topic q) refl
  where
    by : (b : Bool) → bytes_eq x.topic q ≡ b → cond b (Some x) (find (λ v. bytes_eq v.topic q) (filter (λ v. not (bytes_eq x.topic v.topic)) (latest h))) ≡ cond b (Some x) (latest_of q h)
    by true e = refl
    by false e = find-filter (λ v. bytes_eq v.topic q) (λ v. not (bytes_eq x.topic v.topic)) true (λ v k. ap not (ap (bytes_eq x.topic) (same v.topic q k) ∙ e)) (latest h) ∙ r
latest_one _ s t h q r = r

-- the latest version of a topic, among those of all
pub latest_found : (h : List Event) → Legal h → (q : List ℕ) → find (λ v. bytes_eq v.topic q) (latest h) ≡ latest_of q h
latest_found [] l q = refl
latest_found (e ∷ h) l q = ap (find (λ v. bytes_eq v.topic q)) (latest_step e h l.1) ∙ latest_one e.what e.serial e.t h q (latest_found h l.0 q)
