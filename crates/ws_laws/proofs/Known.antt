-- What a legal past is known to have.
use Rattle.std.proofs.Common.{◌≡◌, ℕ, ◌≤◌, Bool, true, false, cond, ◌&&◌, List, [], ◌∷◌, refl, subst, arith, inl, inr}
use Rattle.std.specs.Prelude.{nat_lt, nat_le, is_none, Option, Some, None, filter, find, max, ◌==◌, bytes_eq}
use Rattle.std.specs.List.{AllByRecursion}
use Rattle.std.proofs.lemmas.Bool.Decides.{nat_tests}
use Rattle.std.proofs.lemmas.Bool.{or_left, or_right, or_cases, or_parts, and_parts, eqb-true, false≢true, leb-true}
use Rattle.ws_model.specs.declared.event.Event.{Event}
use Rattle.ws_model.specs.declared.event.What.{What}
use Rattle.ws_model.specs.declared.event.What.TheVariants.{Asked, Confirmed, Declined, Unheard, Barred, Noticed, Pinged, Fetched, Same, Unfetched, Pushed, Tally, Revoked}
use Rattle.ws_model.specs.declared.event.How.{How}
use Rattle.ws_model.specs.declared.event.Intent.{Intent}
use Rattle.ws_model.specs.declared.lease.Lease.{Lease}
use Rattle.ws_laws.proofs.ListLaws.{all_append, all_filter, all_find, all_from, all_map, all_weaker, any_then}
use Rattle.ws_model.specs.Fate.{Pair, fate, is_owed, is_push}
use Rattle.ws_model.specs.History.{has}
use Rattle.ws_model.specs.Intents.{asked, intents_of, is_pending, pending, same_pair}
use Rattle.ws_model.specs.Leases.{confirmed_intent, first_end, is_confirmed, is_on, lease_by, lease_end, lease_of, leases, live}
use Rattle.ws_model.specs.Legal.{Legal, accepts, accepts_what, is_allowed, is_first_tally, is_in_order, is_sound, number_limit, time_limit}
use Rattle.ws_model.specs.Moment.{asked_number, fetched_number, last_intent, last_serial, last_time, last_version}
use Rattle.ws_model.specs.Pairs.{births, carried, owed, pair, pairs}
use Rattle.ws_model.specs.Versions.{is_fetched}

-- the order of the two sides of a test
pub turned : (m n : ℕ) → (m == n) ≡ true → (n == m) ≡ true
turned m n e = grind (arith, nat_tests)

pub itself : (n : ℕ) → (n == n) ≡ true
itself n = grind (arith, nat_tests)

pub has_later : (e : Event) (h : List Event) (p : What → Bool) → has p h ≡ true → has p (e ∷ h) ≡ true
has_later e h p k = or_right (p e.what) (has p h) k

-- ---- each lease is confirmed

abbrev pub IsOfConfirmed : List Event → Lease → Type 0
IsOfConfirmed h l = has (is_confirmed l.intent.n) h ≡ true

made_confirmed : (n sent : ℕ) (h : List Event) (s t : ℕ) (o : Option Intent) → find (λ i. i.n == n) (asked h) ≡ o → AllByRecursion (IsOfConfirmed (record { serial = s; t = t; what = Confirmed n sent } ∷ h)) (lease_by sent o)
made_confirmed n sent h s t None e = tt
made_confirmed n sent h s t (Some i) e = one (is_on i.mode)
  where
    same : (n == i.n) ≡ true
    same = turned i.n n (all_find (λ _. Unit {0}) (λ i. i.n == n) i (asked h) (all_from (λ _. Unit {0}) (λ _. tt) (asked h)) e).1

    one : (b : Bool) → AllByRecursion (IsOfConfirmed (record { serial = s; t = t; what = Confirmed n sent } ∷ h)) (cond b (record { intent = i; sent = sent } ∷ []) [])
    one true = (or_left _ _ same, tt)
    one false = tt

new_confirmed : (w : What) (s t : ℕ) (h : List Event) → AllByRecursion (IsOfConfirmed (record { serial = s; t = t; what = w } ∷ h)) (lease_of w (confirmed_intent w h))
new_confirmed (Confirmed n sent) s t h = made_confirmed n sent h s t _ refl
new_confirmed _ s t h = tt

pub leases_confirmed : (h : List Event) → AllByRecursion (IsOfConfirmed h) (leases h)
leases_confirmed [] = tt
leases_confirmed (e ∷ h) = all_append (IsOfConfirmed (e ∷ h)) _ (leases h) (new_confirmed e.what e.serial e.t h) (all_weaker (IsOfConfirmed h) (IsOfConfirmed (e ∷ h)) (λ l k. or_right _ _ k) (leases h) (leases_confirmed h))

-- what was not confirmed has no end
pub first_end_none : (h : List Event) (l : Lease) → has (is_confirmed l.intent.n) h ≡ false → first_end h l ≡ None
first_end_none [] l e = refl
first_end_none (x ∷ h) l e = let parts = or_parts (is_confirmed l.intent.n x.what) (has (is_confirmed l.intent.n) h) e in rw (first_end_none h l parts.1, parts.1)

-- ---- each pair is of a lease and a version that are known

pub record IsKnown (h : List Event) (p : Pair) : Type 0 where
  pub confirmed : has (is_confirmed p.lease.intent.n) h ≡ true
  pub fetched : has (is_fetched p.version.ver) h ≡ true

known_later : (e : Event) (h : List Event) (p : Pair) → IsKnown h p → IsKnown (e ∷ h) p
known_later e h p k = record { confirmed = or_right _ _ k.confirmed; fetched = or_right _ _ k.fetched }

reborn_known : (e : Event) (h : List Event) (t : ℕ) → AllByRecursion (IsKnown h) (pairs h) → (ls : List Lease) → AllByRecursion (IsOfConfirmed (e ∷ h)) ls → AllByRecursion (IsKnown (e ∷ h)) (carried t (owed h t) ls)
reborn_known e h t ps [] a = tt
reborn_known e h t ps (l ∷ ls) a =
    let Q : Pair → Type 0 = λ p. IsKnown (e ∷ h) (pair t p.version l) in
    all_map (IsKnown (e ∷ h)) (λ p. pair t p.version l) (filter (λ p. same_pair l.intent p.lease.intent) (owed h t))
    (all_filter Q (λ p. same_pair l.intent p.lease.intent) (owed h t) (all_filter Q (λ p. is_owed (fate h p t)) (pairs h)
    (all_weaker (IsKnown h) Q (λ p k. record { confirmed = a.0; fetched = or_right _ _ k.fetched }) (pairs h) ps)))

born_known : (w : What) (s t : ℕ) (h : List Event) → AllByRecursion (IsKnown h) (pairs h) → AllByRecursion (IsKnown (record { serial = s; t = t; what = w } ∷ h)) (births t w (confirmed_intent w h) (live h t) (owed h t))
born_known (Fetched v) s t h ps =
    let e : Event = record { serial = s; t = t; what = Fetched v } in
    let Q : Lease → Type 0 = λ l. IsKnown (e ∷ h) (pair t v l) in
    all_map (IsKnown (e ∷ h)) (pair t v) (filter (λ l. bytes_eq l.intent.topic v.topic) (live h t))
    (all_filter Q (λ l. bytes_eq l.intent.topic v.topic) (live h t) (all_filter Q (λ l. is_none (lease_end h l t)) (leases h)
    (all_weaker (IsOfConfirmed h) Q (λ l k. record { confirmed = has_later e h (is_confirmed l.intent.n) k; fetched = or_left _ _ (itself v.ver) }) (leases h) (leases_confirmed h))))
born_known (Confirmed n sent) s t h ps = reborn_known (record { serial = s; t = t; what = Confirmed n sent }) h t ps (lease_by sent (confirmed_intent (Confirmed n sent) h)) (new_confirmed (Confirmed n sent) s t h)
born_known _ s t h ps = tt

pub pairs_known : (h : List Event) → AllByRecursion (IsKnown h) (pairs h)
pairs_known [] = tt
pairs_known (e ∷ h) = all_append (IsKnown (e ∷ h)) _ (pairs h) (born_known e.what e.serial e.t h (pairs_known h)) (all_weaker (IsKnown h) (IsKnown (e ∷ h)) (known_later e h) (pairs h) (pairs_known h))

-- ---- what is allowed

at_once : (e : Event) (h : List Event) (w : What) → (is_in_order e h && is_sound e.serial w && is_allowed w e.t h) ≡ true → (is_allowed w e.t h ≡ true) × (last_time h ≤ e.t)
at_once e h w k =
    let a = and_parts (is_in_order e h && is_sound e.serial w) (is_allowed w e.t h) k in
    let b = and_parts (is_in_order e h) (is_sound e.serial w) a.0 in
    let c = and_parts (nat_lt (last_serial h) e.serial && nat_lt e.serial number_limit && nat_le (last_time h) e.t) (nat_lt e.t time_limit) b.0 in
    (a.1, leb-true _ _ (and_parts (nat_lt (last_serial h) e.serial && nat_lt e.serial number_limit) (nat_le (last_time h) e.t) c.0).1)

accepted : (e : Event) (h : List Event) (w : What) → accepts_what e h w ≡ true → (is_allowed w e.t h ≡ true) × (last_time h ≤ e.t)
accepted e [] (Tally c) k = (refl, omega arith)
accepted e (f ∷ h) (Tally c) k = absurd (false≢true k)
accepted e h (Asked i) k = at_once e h (Asked i) k
accepted e h (Confirmed n sent) k = at_once e h (Confirmed n sent) k
accepted e h (Declined n code) k = at_once e h (Declined n code) k
accepted e h (Unheard n) k = at_once e h (Unheard n) k
accepted e h (Barred n reason) k = at_once e h (Barred n reason) k
accepted e h (Noticed n heard) k = at_once e h (Noticed n heard) k
accepted e h (Pinged topic) k = at_once e h (Pinged topic) k
accepted e h (Fetched v) k = at_once e h (Fetched v) k
accepted e h (Same topic upto) k = at_once e h (Same topic upto) k
accepted e h (Unfetched topic upto why) k = at_once e h (Unfetched topic upto why) k
accepted e h (Pushed v n how) k = at_once e h (Pushed v n how) k
accepted e h (Revoked n reason) k = at_once e h (Revoked n reason) k

pub allowed : (h : List Event) (e : Event) → accepts h e ≡ true → is_allowed e.what e.t h ≡ true
allowed h e k = (accepted e h e.what k).0

pub in_time : (h : List Event) (e : Event) → accepts h e ≡ true → last_time h ≤ e.t
in_time h e k = (accepted e h e.what k).1

sound_of : (e : Event) (h : List Event) (w : What) → accepts_what e h w ≡ true → is_sound e.serial w ≡ true
sound_of e h (Tally c) k = (and_parts (is_first_tally e h) _ k).1
sound_of e h w k = (and_parts (is_in_order e h) _ (and_parts (is_in_order e h && is_sound e.serial w) _ k).0).1

pub sound : (h : List Event) (e : Event) → accepts h e ≡ true → is_sound e.serial e.what ≡ true
sound h e k = sound_of e h e.what k

-- ---- each push is of a pair that was there

is_one : (a b c d : ℕ) (x : Bool) → ((a == b) && (c == d) && x) ≡ true → (a ≡ b) × (c ≡ d)
is_one a b c d x k = let p = and_parts ((a == b) && (c == d)) x k in let q = and_parts (a == b) (c == d) p.0 in (eqb-true a b q.0, eqb-true c d q.1)

pub record HasBoth (h : List Event) (v n : ℕ) : Type 0 where
  pub confirmed : has (is_confirmed n) h ≡ true
  pub fetched : has (is_fetched v) h ≡ true

push_allowed : (h : List Event) (v n t : ℕ) (how : How) → is_allowed (Pushed v n how) t h ≡ true → HasBoth h v n
push_allowed h v n t how k =
    any_then (IsKnown h) (λ p. (p.version.ver == v) && (p.lease.intent.n == n)) (HasBoth h v n)
    (λ p known e. let q = and_parts (p.version.ver == v) (p.lease.intent.n == n) e in
    record { confirmed = subst (λ m. has (is_confirmed m) h ≡ true) (eqb-true _ _ q.1) known.confirmed; fetched = subst (λ m. has (is_fetched m) h ≡ true) (eqb-true _ _ q.0) known.fetched })
    (owed h t) (all_filter (IsKnown h) (λ p. is_owed (fate h p t)) (pairs h) (pairs_known h)) k

push_known : (w : What) (t : ℕ) (h : List Event) (test : How → Bool) (v n : ℕ) → is_allowed w t h ≡ true → is_push test v n w ≡ true → HasBoth h v n
push_known (Pushed a b how) t h test v n ok k =
    let q = is_one a v b n (test how) k in
    subst (λ x. HasBoth h x n) q.0 (subst (λ x. HasBoth h a x) q.1 (push_allowed h a b t how ok))
push_known _ t h test v n ok k = absurd (false≢true k)

pub pushes_known : (h : List Event) → Legal h → (test : How → Bool) (v n : ℕ) → has (is_push test v n) h ≡ true → HasBoth h v n
pushes_known [] l test v n k = absurd (false≢true k)
pushes_known (e ∷ h) l test v n k = elim (or_cases (is_push test v n e.what) (has (is_push test v n) h) k) [
  | inl a ↦ let b = push_known e.what e.t h test v n (allowed h e l.1) a in record { confirmed = or_right _ _ b.confirmed; fetched = or_right _ _ b.fetched }
  | inr a ↦ let b = pushes_known h l.0 test v n a in record { confirmed = or_right _ _ b.confirmed; fetched = or_right _ _ b.fetched }
]

-- ---- numbers

abbrev pub is_about : ℕ → What → Bool
is_about n (Confirmed m sent) = m == n
is_about n (Declined m code) = m == n
is_about n (Barred m reason) = m == n
is_about n (Unheard m) = m == n
is_about n _ = false

pub fetched_le : (h : List Event) (v : ℕ) → has (is_fetched v) h ≡ true → v ≤ last_version h
fetched_le [] v k = absurd (false≢true k)
fetched_le (e ∷ h) v k = elim (or_cases (is_fetched v e.what) (has (is_fetched v) h) k) [
  | inl a ↦ this e.what a
  | inr a ↦ let b : v ≤ last_version h = fetched_le h v a in omega arith
]
  where
    this : (w : What) → is_fetched v w ≡ true → v ≤ max (fetched_number w) (last_version h)
    this (Fetched x) a = let b : x.ver ≡ v = eqb-true x.ver v a in omega arith
    this _ a = absurd (false≢true a)

asked_one : (w : What) → AllByRecursion (λ i. i.n ≤ asked_number w) (intents_of w)
asked_one (Asked i) = (omega arith, tt)
asked_one _ = tt

pub asked_le : (h : List Event) → AllByRecursion (λ i. i.n ≤ last_intent h) (asked h)
asked_le [] = tt
asked_le (e ∷ h) =
    all_append (λ i. i.n ≤ last_intent (e ∷ h)) (intents_of e.what) (asked h)
    (all_weaker (λ i. i.n ≤ asked_number e.what) (λ i. i.n ≤ last_intent (e ∷ h)) (λ i k. omega arith) (intents_of e.what) (asked_one e.what))
    (all_weaker (λ i. i.n ≤ last_intent h) (λ i. i.n ≤ last_intent (e ∷ h)) (λ i k. omega arith) (asked h) (asked_le h))

-- the intent that is found among the pending ones
found_le : (h : List Event) (n : ℕ) (o : Option Intent) → find (λ i. i.n == n) (pending h) ≡ o → (o ≡ None → ⊥) → n ≤ last_intent h
found_le h n None e k = absurd (k refl)
found_le h n (Some i) e k =
    let q = all_find (λ i. i.n ≤ last_intent h) (λ i. i.n == n) i (pending h) (all_filter (λ i. i.n ≤ last_intent h) (is_pending h) (asked h) (asked_le h)) e in
    let a : i.n ≤ last_intent h = q.0 in
    let b : i.n ≡ n = eqb-true i.n n q.1 in omega arith

about_one : (w : What) (t : ℕ) (h : List Event) (n : ℕ) → is_allowed w t h ≡ true → is_about n w ≡ true → n ≤ last_intent h
about_one (Confirmed m sent) t h n ok k = let b : m ≡ n = eqb-true m n k in subst (λ x. x ≤ last_intent h) b (found_le h m _ refl (λ e. false≢true (rw e at ok)))
about_one (Declined m code) t h n ok k = let b : m ≡ n = eqb-true m n k in subst (λ x. x ≤ last_intent h) b (found_le h m _ refl (λ e. false≢true (rw e at ok)))
about_one (Unheard m) t h n ok k = let b : m ≡ n = eqb-true m n k in subst (λ x. x ≤ last_intent h) b (found_le h m _ refl (λ e. false≢true (rw e at ok)))
about_one (Barred m reason) t h n ok k = let b : m ≡ n = eqb-true m n k in subst (λ x. x ≤ last_intent h) b (found_le h m _ refl (λ e. false≢true (rw e at ok)))
about_one _ t h n ok k = absurd (false≢true k)

pub about_le : (h : List Event) → Legal h → (n : ℕ) → has (is_about n) h ≡ true → n ≤ last_intent h
about_le [] l n k = absurd (false≢true k)
about_le (e ∷ h) l n k = elim (or_cases (is_about n e.what) (has (is_about n) h) k) [
  | inl a ↦ let b : n ≤ last_intent h = about_one e.what e.t h n (allowed h e l.1) a in omega arith
  | inr a ↦ let b : n ≤ last_intent h = about_le h l.0 n a in omega arith
]
