-- The latest versions and the owed fetches after one more event.
use Rattle.std.proofs.Common.{◌≡◌, ℕ, suc, ◌≤◌, ◌<◌, Bool, true, false, cond, not, ◌&&◌, ◌||◌, List, [], ◌∷◌, refl, ap, sym, ◌∙◌, arith, inl, inr}
use Rattle.std.specs.Prelude.{nat_lt, nat_le, Some, map, filter, find, ◌==◌, bytes_eq}
use Rattle.std.specs.List.{AllByRecursion}
use Rattle.std.proofs.lemmas.Bool.Decides.{nat_tests}
use Rattle.std.proofs.lemmas.Bool.{or_cases, and_parts, ltb-true, leb-true, false≢true, false_from_ne_true, not-true}
use Rattle.std.proofs.lemmas.Slice.Eq.{bytes_eq-Decides}
use Rattle.ws_model.specs.declared.event.What.TheVariants.{Pinged, Fetched, Same, Unfetched}
use Rattle.ws_model.specs.declared.event.Event.{Event}
use Rattle.ws_model.specs.declared.event.Version.{Version}
use Rattle.ws_model.specs.declared.event.What.{What}
use Rattle.ws_laws.proofs.Known.{allowed, itself, sound}
use Rattle.ws_laws.proofs.ListLaws.{all_append, all_filter_with, all_from, all_weaker, filter-filter, filter-map, filter_filter_on, map-map, map_same}
use Rattle.ws_laws.specs.Steps.{fetches_after, latest_after, missed_more, unanswered}
use Rattle.ws_model.specs.History.{has, since, times}
use Rattle.ws_model.specs.Legal.{Legal, accepts, is_allowed, is_sound, is_sound_version, is_text}
use Rattle.ws_model.specs.Moment.{fetched_number, last_serial, last_version}
use Rattle.ws_model.specs.Versions.{Ping, fetches, is_answer, is_owed_fetch, is_ping, is_ping_at, is_unfetched, is_version, latest, latest_of, missed_fetches, pings, pings_of, versions, versions_of}
use Rattle.ws_model.specs.View.{OwedFetch, owed_fetch}

pub bytes_same : (a : List ℕ) → bytes_eq a a ≡ true
bytes_same a = (bytes_eq-Decides a a).1 refl

pub bytes_are : (a b : List ℕ) → bytes_eq a b ≡ true → a ≡ b
bytes_are a b k = (bytes_eq-Decides a b).0 k

and_false : (b : Bool) → false ≡ (b && false)
and_false true = refl
and_false false = refl

and_true : (b : Bool) → b ≡ (b && true)
and_true true = refl
and_true false = refl

-- ---- versions

fetched_one : (w : What) → AllByRecursion (λ (v : Version). v.ver ≤ fetched_number w) (versions_of w)
fetched_one (Fetched v) = (omega arith, tt)
fetched_one _ = tt

pub versions_le : (h : List Event) → AllByRecursion (λ (v : Version). v.ver ≤ last_version h) (versions h)
versions_le [] = tt
versions_le (e ∷ h) =
    all_append (λ (v : Version). v.ver ≤ last_version (e ∷ h)) (versions_of e.what) (versions h)
    (all_weaker (λ (v : Version). v.ver ≤ fetched_number e.what) (λ (v : Version). v.ver ≤ last_version (e ∷ h)) (λ v k. omega arith) (versions_of e.what) (fetched_one e.what))
    (all_weaker (λ (v : Version). v.ver ≤ last_version h) (λ (v : Version). v.ver ≤ last_version (e ∷ h)) (λ v k. omega arith) (versions h) (versions_le h))

other_number : (m n k : ℕ) → m ≤ k → k < n → (n == m) ≡ false
other_number m n k a b = grind (arith, nat_tests)

still_latest : (x v : Version) (h : List Event) → last_version h < x.ver → v.ver ≤ last_version h
    → is_version v.ver (cond (bytes_eq x.topic v.topic) (Some x) (latest_of v.topic h)) ≡ (is_version v.ver (latest_of v.topic h) && not (bytes_eq x.topic v.topic))
still_latest x v h new old = one (bytes_eq x.topic v.topic)
  where
    one : (b : Bool) → is_version v.ver (cond b (Some x) (latest_of v.topic h)) ≡ (is_version v.ver (latest_of v.topic h) && not b)
    one true = other_number v.ver x.ver (last_version h) old new ∙ and_false _
    one false = and_true _

latest_fetched : (x : Version) (s t : ℕ) (h : List Event) → last_version h < x.ver → latest (record { serial = s; t = t; what = Fetched x } ∷ h) ≡ x ∷ filter (λ v. not (bytes_eq x.topic v.topic)) (latest h)
latest_fetched x s t h new =
    rw (bytes_same x.topic, itself x.ver)
    (ap (λ vs. x ∷ vs) (filter_filter_on _ (λ v. is_version v.ver (latest_of v.topic h)) (λ v. not (bytes_eq x.topic v.topic)) (versions h)
    (all_weaker (λ (v : Version). v.ver ≤ last_version h) _ (λ v old. still_latest x v h new old) (versions h) (versions_le h))))

latest_by : (w : What) (s t : ℕ) (h : List Event) → is_allowed w t h ≡ true → latest (record { serial = s; t = t; what = w } ∷ h) ≡ latest_after w (latest h)
latest_by (Fetched x) s t h k = latest_fetched x s t h (ltb-true _ _ k)
latest_by _ s t h k = refl

pub latest_step : (e : Event) (h : List Event) → accepts h e ≡ true → latest (e ∷ h) ≡ latest_after e.what (latest h)
latest_step e h k = latest_by e.what e.serial e.t h (allowed h e k)

-- ---- pings and their answers

pinged_one : (w : What) (s t : ℕ) → AllByRecursion (λ (p : Ping). p.serial ≤ s) (pings_of (record { serial = s; t = t; what = w }) w)
pinged_one (Pinged topic) s t = (omega arith, tt)
pinged_one _ s t = tt

pub pings_le : (h : List Event) → AllByRecursion (λ (p : Ping). p.serial ≤ last_serial h) (pings h)
pings_le [] = tt
pings_le (e ∷ h) =
    all_append (λ (p : Ping). p.serial ≤ last_serial (e ∷ h)) (pings_of e e.what) (pings h)
    (all_weaker (λ (p : Ping). p.serial ≤ e.serial) (λ (p : Ping). p.serial ≤ last_serial (e ∷ h)) (λ p k. omega arith) (pings_of e e.what) (pinged_one e.what e.serial e.t))
    (all_weaker (λ (p : Ping). p.serial ≤ last_serial h) (λ (p : Ping). p.serial ≤ last_serial (e ∷ h)) (λ p k. omega arith) (pings h) (pings_le h))

answer_one : (w : What) (s : ℕ) (p : Ping) → is_sound s w ≡ true → is_answer p w ≡ true → p.serial < s
answer_one (Fetched v) s p k a =
    let b : p.serial ≤ v.upto = leb-true _ _ (and_parts (bytes_eq v.topic p.topic) (nat_le p.serial v.upto) a).1 in
    let c : v.upto < s = ltb-true _ _ (and_parts (is_sound_version v) (nat_lt v.upto s) k).1 in
    omega arith
answer_one (Same topic upto) s p k a =
    let b : p.serial ≤ upto = leb-true _ _ (and_parts (bytes_eq topic p.topic) (nat_le p.serial upto) a).1 in
    let c : upto < s = ltb-true _ _ (and_parts (is_text topic) (nat_lt upto s) k).1 in
    omega arith
answer_one _ s p k a = absurd (false≢true a)

answers_le : (h : List Event) → Legal h → (p : Ping) → has (is_answer p) h ≡ true → p.serial ≤ last_serial h
answers_le [] l p k = absurd (false≢true k)
answers_le (e ∷ h) l p k = elim (or_cases (is_answer p e.what) (has (is_answer p) h) k) [
  | inl a ↦ let b : p.serial < e.serial = answer_one e.what e.serial p (sound h e l.1) a in omega arith
  | inr a ↦ let b : p.serial ≤ last_serial h = answers_le h l.0 p a in omega arith
]

unanswered_yet : (h : List Event) → Legal h → (p : Ping) → last_serial h < p.serial → has (is_answer p) h ≡ false
unanswered_yet h l p k = false_from_ne_true _ (λ y. let b : p.serial ≤ last_serial h = answers_le h l p y in absurd (omega arith))

-- ---- a ping

module _ (topic : List ℕ) (s t : ℕ) (h : List Event) (l : Legal h) (new : last_serial h < s) where
  abbrev ping : Ping
  ping = record { topic = topic; serial = s }

  abbrev pinged : Event
  pinged = record { serial = s; t = t; what = Pinged topic }

  owed_at_once : is_owed_fetch (pinged ∷ h) ping ≡ true
  owed_at_once = rw (bytes_same topic, itself s, unanswered_yet h l ping new)

  still_owed : (p : Ping) → p.serial ≤ last_serial h → is_owed_fetch (pinged ∷ h) p ≡ (is_owed_fetch h p && not (bytes_eq topic p.topic))
  still_owed p old = one (bytes_eq topic p.topic)
    where
      one : (b : Bool) → (is_ping_at p.serial (cond b (Some ping) (find (λ q. bytes_eq q.topic p.topic) (pings h))) && not (has (is_answer p) h) && nat_lt (times (is_unfetched p.topic) (cond b [] (pinged ∷ since (is_ping p.topic) h))) 3)
          ≡ (is_owed_fetch h p && not b)
      one true = rw (other_number p.serial s (last_serial h) old new) (and_false _)
      one false = and_true _

  first_missed : owed_fetch (pinged ∷ h) ping ≡ record { topic = topic; serial = s; missed = 0 }
  first_missed = rw (bytes_same topic)

  as_missed : (p : Ping) → not (bytes_eq topic p.topic) ≡ true → owed_fetch (pinged ∷ h) p ≡ owed_fetch h p
  as_missed p k = rw (not-true (bytes_eq topic p.topic) k)

  fetches_pinged : map (owed_fetch (pinged ∷ h)) (fetches (pinged ∷ h)) ≡ record { topic = topic; serial = s; missed = 0 } ∷ filter (λ f. not (bytes_eq topic f.topic)) (map (owed_fetch h) (fetches h))
  fetches_pinged =
      let others : List Ping = filter (λ p. not (bytes_eq topic p.topic)) (fetches h) in
      rw owed_at_once
      (ap (λ ps. map (owed_fetch (pinged ∷ h)) (ping ∷ ps))
      (filter_filter_on (is_owed_fetch (pinged ∷ h)) (is_owed_fetch h) (λ p. not (bytes_eq topic p.topic)) (pings h)
      (all_weaker (λ (p : Ping). p.serial ≤ last_serial h) _ still_owed (pings h) (pings_le h)))
      ∙ ap (λ f. f ∷ map (owed_fetch (pinged ∷ h)) others) first_missed
      ∙ ap (λ fs. record { topic = topic; serial = s; missed = 0 } ∷ fs)
      (map_same (owed_fetch (pinged ∷ h)) (owed_fetch h) others
      (all_weaker (λ (p : Ping). Unit {0} × (not (bytes_eq topic p.topic) ≡ true)) (λ p. owed_fetch (pinged ∷ h) p ≡ owed_fetch h p) (λ p k. as_missed p k.1) others
      (all_filter_with (λ (p : Ping). Unit {0}) (λ p. not (bytes_eq topic p.topic)) (fetches h) (all_from (λ (p : Ping). Unit {0}) (λ p. tt) (fetches h))))
      ∙ sym (filter-map (owed_fetch h) (λ f. not (bytes_eq topic f.topic)) (fetches h))))

-- ---- an answer

parted_answer : (a b c d : Bool) → (a && not (b || c) && d) ≡ (a && not c && d && not b)
parted_answer false b c d = refl
parted_answer true true true d = refl
parted_answer true true false true = refl
parted_answer true true false false = refl
parted_answer true false true d = refl
parted_answer true false false true = refl
parted_answer true false false false = refl

fetches_fetched : (x : Version) (s t : ℕ) (h : List Event) → map (owed_fetch (record { serial = s; t = t; what = Fetched x } ∷ h)) (fetches (record { serial = s; t = t; what = Fetched x } ∷ h)) ≡ filter (unanswered x.topic x.upto) (map (owed_fetch h) (fetches h))
fetches_fetched x s t h =
    ap (map (owed_fetch h)) (filter-filter (is_owed_fetch (record { serial = s; t = t; what = Fetched x } ∷ h)) (is_owed_fetch h) (λ p. not (bytes_eq x.topic p.topic && nat_le p.serial x.upto))
    (λ p. parted_answer (is_ping_at p.serial (find (λ q. bytes_eq q.topic p.topic) (pings h))) (bytes_eq x.topic p.topic && nat_le p.serial x.upto) (has (is_answer p) h) (nat_lt (missed_fetches p.topic h) 3)) (pings h))
    ∙ sym (filter-map (owed_fetch h) (unanswered x.topic x.upto) (fetches h))

fetches_same : (topic : List ℕ) (upto s t : ℕ) (h : List Event) → map (owed_fetch (record { serial = s; t = t; what = Same topic upto } ∷ h)) (fetches (record { serial = s; t = t; what = Same topic upto } ∷ h)) ≡ filter (unanswered topic upto) (map (owed_fetch h) (fetches h))
fetches_same topic upto s t h =
    ap (map (owed_fetch h)) (filter-filter (is_owed_fetch (record { serial = s; t = t; what = Same topic upto } ∷ h)) (is_owed_fetch h) (λ p. not (bytes_eq topic p.topic && nat_le p.serial upto))
    (λ p. parted_answer (is_ping_at p.serial (find (λ q. bytes_eq q.topic p.topic) (pings h))) (bytes_eq topic p.topic && nat_le p.serial upto) (has (is_answer p) h) (nat_lt (missed_fetches p.topic h) 3)) (pings h))
    ∙ sym (filter-map (owed_fetch h) (unanswered topic upto) (fetches h))

-- ---- a miss

fewer : (b : Bool) (m : ℕ) → nat_lt (cond b (suc m) m) 3 ≡ (nat_lt m 3 && nat_lt (cond b (suc m) m) 3)
fewer true m = grind (arith, nat_tests)
fewer false m = one (nat_lt m 3)
  where
    one : (b : Bool) → b ≡ (b && b)
    one true = refl
    one false = refl

grouped : (a b c d : Bool) → c ≡ (d && c) → (a && b && c) ≡ (a && b && d && c)
grouped false b c d e = refl
grouped true false c d e = refl
grouped true true c d e = e

fetches_missed : (topic : List ℕ) (upto why s t : ℕ) (h : List Event) → map (owed_fetch (record { serial = s; t = t; what = Unfetched topic upto why } ∷ h)) (fetches (record { serial = s; t = t; what = Unfetched topic upto why } ∷ h)) ≡ filter (λ f. nat_lt f.missed 3) (map (missed_more topic) (map (owed_fetch h) (fetches h)))
fetches_missed topic upto why s t h =
    let missed : Ping → OwedFetch = λ p. missed_more topic (owed_fetch h p) in
    ap (map missed) (filter-filter (is_owed_fetch (record { serial = s; t = t; what = Unfetched topic upto why } ∷ h)) (is_owed_fetch h) (λ p. nat_lt (missed p).missed 3)
    (λ p. grouped (is_ping_at p.serial (find (λ q. bytes_eq q.topic p.topic) (pings h))) (not (has (is_answer p) h)) _ (nat_lt (missed_fetches p.topic h) 3) (fewer (bytes_eq topic p.topic) (missed_fetches p.topic h))) (pings h))
    ∙ sym (filter-map missed (λ f. nat_lt f.missed 3) (fetches h))
    ∙ ap (filter (λ f. nat_lt f.missed 3)) (sym (map-map (owed_fetch h) (missed_more topic) (fetches h)))

-- ---- all events

fetches_by : (w : What) (s t : ℕ) (h : List Event) → Legal h → last_serial h < s → map (owed_fetch (record { serial = s; t = t; what = w } ∷ h)) (fetches (record { serial = s; t = t; what = w } ∷ h)) ≡ fetches_after s w (map (owed_fetch h) (fetches h))
fetches_by (Pinged topic) s t h l new = fetches_pinged topic s t h l new
fetches_by (Fetched x) s t h l new = fetches_fetched x s t h
fetches_by (Same topic upto) s t h l new = fetches_same topic upto s t h
fetches_by (Unfetched topic upto why) s t h l new = fetches_missed topic upto why s t h
fetches_by _ s t h l new = refl

pub fetches_step : (e : Event) (h : List Event) → Legal h → last_serial h < e.serial → map (owed_fetch (e ∷ h)) (fetches (e ∷ h)) ≡ fetches_after e.serial e.what (map (owed_fetch h) (fetches h))
fetches_step e h l new = fetches_by e.what e.serial e.t h l new
