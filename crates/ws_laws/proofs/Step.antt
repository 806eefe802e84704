-- The view after one more event follows from the view before it.
use Rattle.std.proofs.Common.{◌≡◌, ℕ, suc, ◌+◌, ◌≤◌, ◌<◌, Bool, true, false, cond, not, ◌&&◌, ◌||◌, List, [], ◌∷◌, ◌++◌, refl, ap, sym, ◌∙◌, subst, arith, inl, inr, ◌⊎◌}
use Rattle.std.specs.Prelude.{nat_lt, nat_le, is_none, Option, Some, None, map, filter, find, max, ◌==◌, bytes_eq}
use Rattle.std.specs.List.{AllByRecursion}
use Rattle.std.specs.Option.{option_map}
use Rattle.std.proofs.lemmas.Bool.Decides.{nat_tests}
use Rattle.std.proofs.lemmas.Bool.{or_parts, or_from, and_parts, eqb-true, false≢true, ltb-true, false_from_ne_true, not-true}
use Rattle.std.proofs.lemmas.List.{map-append}
use Rattle.std.proofs.lemmas.List.Elements.{filter-append}
use Rattle.ws_model.specs.declared.event.Event.{Event}
use Rattle.ws_model.specs.declared.event.What.{What}
use Rattle.ws_model.specs.declared.event.What.TheVariants.{Asked, Confirmed, Declined, Unheard, Barred, Fetched}
use Rattle.ws_model.specs.declared.event.How.{How}
use Rattle.ws_model.specs.declared.fate.Cause.{Cause}
use Rattle.ws_model.specs.declared.fate.Cause.TheVariants.{Expired}
use Rattle.ws_model.specs.declared.event.Intent.{Intent}
use Rattle.ws_model.specs.declared.event.Version.{Version}
use Rattle.ws_model.specs.declared.lease.Lease.{Lease}
use Rattle.ws_laws.proofs.Advance.{is_owed_parts}
use Rattle.ws_laws.proofs.Known.{IsKnown, IsOfConfirmed, about_le, allowed, fetched_le, first_end_none, in_time, is_about, leases_confirmed, pairs_known, pushes_known}
use Rattle.ws_laws.proofs.ListLaws.{all_filter, all_filter_with, all_find, all_from, all_map, all_weaker, filter-filter, filter-map, filter_all, filter_filter_on, find-filter, find-map, map-map, map_same}
use Rattle.ws_laws.specs.Steps.{after_miss, confirmed_in, found, is_missed, lives_on, new_push, new_pushes, new_waiting, owed_afresh, stays_owed, stays_pending, unheard_more}
use Rattle.ws_model.specs.Fate.{Pair, delay, fate, is_done, is_miss, is_owed, is_push, misses, next_by}
use Rattle.ws_model.specs.History.{has, newest_time, times}
use Rattle.ws_model.specs.Intents.{asked, intents_of, is_pending, is_pending_number, is_settled, is_unheard, pending, same_pair}
use Rattle.ws_model.specs.Leases.{cause_of, confirmed_intent, expiry, first_end, is_confirmed, is_on, lease_by, lease_end, lease_of, leases, live, or_else, stamped}
use Rattle.ws_model.specs.Legal.{Legal, accepts, is_allowed, is_confirmable}
use Rattle.ws_model.specs.Moment.{last_intent, last_time, last_version}
use Rattle.ws_model.specs.Pairs.{births, carried, owed, pair, pairs}
use Rattle.ws_model.specs.Versions.{is_fetched}
use Rattle.ws_model.specs.View.{OwedPush, owed_push, view, waiting}

-- ---- the intent that a confirmation is of

pub find_pending : (h : List Event) (n : ℕ) → find (λ i. i.n == n) (pending h) ≡ cond (is_pending_number h n) (find (λ i. i.n == n) (asked h)) None
find_pending h n = find-filter (λ i. i.n == n) (is_pending h) (is_pending_number h n) (λ i k. ap (is_pending_number h) (eqb-true i.n n k)) (asked h)

pub found_waiting : (h : List Event) (o : Option Intent) → found (λ w. w.intent) (option_map (waiting h) o) ≡ o
found_waiting h None = refl
found_waiting h (Some i) = refl

pub named_pending : (h : List Event) (n : ℕ) → found (λ w. w.intent) (find (λ w. w.intent.n == n) (map (waiting h) (pending h))) ≡ find (λ i. i.n == n) (pending h)
named_pending h n = ap (found (λ w. w.intent)) (find-map (waiting h) (λ w. w.intent.n == n) (pending h)) ∙ found_waiting h _

-- a confirmation is allowed for an intent that is pending
pub record IsConfirming (h : List Event) (n sent t : ℕ) : Type 0 where
  pub intent : Intent
  pub pending : is_pending_number h n ≡ true
  pub is : find (λ i. i.n == n) (asked h) ≡ Some intent
  pub confirmable : is_confirmable h sent t (Some intent) ≡ true

confirming : (h : List Event) (n sent t : ℕ) (o : Option Intent) (b : Bool) → is_pending_number h n ≡ b → find (λ i. i.n == n) (asked h) ≡ o → is_confirmable h sent t (cond b o None) ≡ true → IsConfirming h n sent t
confirming h n sent t (Some i) true p e k = record { intent = i; pending = p; is = e; confirmable = k }
confirming h n sent t None true p e k = absurd (false≢true k)
confirming h n sent t o false p e k = absurd (false≢true k)

pub confirms : (h : List Event) (n sent t : ℕ) → is_allowed (Confirmed n sent) t h ≡ true → IsConfirming h n sent t
confirms h n sent t k = confirming h n sent t _ _ refl refl (rw (find_pending h n) at k)

pub named_is : (w : What) (t : ℕ) (h : List Event) → is_allowed w t h ≡ true → confirmed_in w (view h t) ≡ confirmed_intent w h
named_is (Confirmed n sent) t h k = let c = confirms h n sent t k in named_pending h n ∙ find_pending h n ∙ ap (λ b. cond b (find (λ i. i.n == n) (asked h)) None) c.pending
named_is _ t h k = refl

-- ---- live leases

abbrev pub EndsBy : ℕ → Option (ℕ × Cause) → Type 0
EndsBy t None = Unit {0}
EndsBy t (Some a) = a.0 ≤ t

ends_more : (s t : ℕ) (o : Option (ℕ × Cause)) (c : Option Cause) → EndsBy t o → EndsBy (max s t) (or_else o (stamped s c))
ends_more s t (Some a) c k = omega arith
ends_more s t None None k = tt
ends_more s t None (Some c) k = omega arith

pub ends_later : (s t : ℕ) (o : Option (ℕ × Cause)) → s ≤ t → EndsBy s o → EndsBy t o
ends_later s t None le k = tt
ends_later s t (Some a) le k = omega arith

pub first_end_le : (h : List Event) (l : Lease) → EndsBy (last_time h) (first_end h l)
first_end_le [] l = tt
first_end_le (x ∷ h) l = ends_more x.t (last_time h) (first_end h l) _ (first_end_le h l)

and_true : (b : Bool) → b ≡ (b && true)
and_true true = refl
and_true false = refl

pub and_false : (b : Bool) → false ≡ (b && false)
and_false true = refl
and_false false = refl

-- an end at the moment t is an end
ended_now : (x t : ℕ) (c : Cause) → is_none (cond (nat_lt t x) (Some c) (cond (nat_le x t) (Some Expired) None)) ≡ false
ended_now x t c = grind (arith, nat_tests)

pub ended_before : (s x t : ℕ) (c : Cause) → s ≤ t → is_none (cond (nat_lt s x) (Some c) (cond (nat_le x t) (Some Expired) None)) ≡ false
ended_before s x t c le = grind (arith, nat_tests)

-- one more end, at the moment t
end_now : (o : Option (ℕ × Cause)) (x t : ℕ) (c : Option Cause) → EndsBy t o → is_none (cause_of (or_else o (stamped t c)) x t) ≡ (is_none (cause_of o x t) && is_none c)
end_now None x t None k = and_true _
end_now None x t (Some c) k = ended_now x t c ∙ and_false _
end_now (Some a) x t c k = rw (ended_before a.0 x t a.1 k)

-- a lease that was there stays live unless the event ends it
stays_live : (e : Event) (h : List Event) (l : Lease) → last_time h ≤ e.t → IsOfConfirmed h l → is_none (lease_end (e ∷ h) l e.t) ≡ (is_none (lease_end h l e.t) && lives_on e.what (confirmed_intent e.what h) l)
stays_live e h l le k = rw k (end_now (first_end h l) (expiry l) e.t _ (ends_later (last_time h) e.t _ le (first_end_le h l)))

-- ---- what was not said of a number

pub has_less : (p q : What → Bool) → ((w : What) → p w ≡ true → q w ≡ true) → (h : List Event) → has q h ≡ false → has p h ≡ false
has_less p q f [] k = refl
has_less p q f (e ∷ h) k = let r = or_parts (q e.what) (has q h) k in or_from _ _ (false_from_ne_true _ (λ y. false≢true (sym r.0 ∙ f e.what y))) (has_less p q f h r.1)

confirmed_settled : (n : ℕ) (w : What) → is_confirmed n w ≡ true → is_settled n w ≡ true
confirmed_settled n (Confirmed m sent) k = k
confirmed_settled n _ k = absurd (false≢true k)

not_confirmed : (h : List Event) (n : ℕ) → is_pending_number h n ≡ true → has (is_confirmed n) h ≡ false
not_confirmed h n k = has_less (is_confirmed n) (is_settled n) (confirmed_settled n) h (not-true _ (and_parts (not (has (is_settled n) h)) _ k).0)

-- ---- new leases are live

pub record IsFresh (e : Event) (h : List Event) (l : Lease) : Type 0 where
  pub lives : is_none (lease_end (e ∷ h) l e.t) ≡ true
  pub unconfirmed : has (is_confirmed l.intent.n) h ≡ false

open_yet : (x t : ℕ) → nat_lt t x ≡ true → is_none (cond (nat_le x t) (Some Expired) None) ≡ true
open_yet x t k = grind (arith, nat_tests)

made_fresh : (e : Event) (h : List Event) (sent : ℕ) (i : Intent) (b : Bool) → has (is_confirmed i.n) h ≡ false → (not b || nat_lt e.t (sent + i.granted)) ≡ true → AllByRecursion (IsFresh e h) (cond b (record { intent = i; sent = sent } ∷ []) [])
made_fresh e h sent i false k x = tt
made_fresh e h sent i true k x = (record { lives = rw (k, first_end_none h (record { intent = i; sent = sent }) k) (open_yet (sent + i.granted) e.t x); unconfirmed = k }, tt)

pub new_fresh : (w : What) (s t : ℕ) (h : List Event) → is_allowed w t h ≡ true → AllByRecursion (IsFresh (record { serial = s; t = t; what = w }) h) (lease_of w (confirmed_intent w h))
new_fresh (Confirmed n sent) s t h k =
    let c = confirms h n sent t k in
    let r = and_parts _ _ c.confirmable in
    let same = (all_find (λ _. Unit {0}) (λ i. i.n == n) c.intent (asked h) (all_from (λ _. Unit {0}) (λ _. tt) (asked h)) c.is).1 in
    let e : Event = record { serial = s; t = t; what = Confirmed n sent } in
    subst (λ o. AllByRecursion (IsFresh e h) (lease_by sent o)) (sym c.is)
    (made_fresh e h sent c.intent (is_on c.intent.mode) (subst (λ m. has (is_confirmed m) h ≡ false) (sym (eqb-true _ _ same)) (not_confirmed h n c.pending)) r.1)
new_fresh _ s t h k = tt

pub live_step : (e : Event) (h : List Event) → accepts h e ≡ true → live (e ∷ h) e.t ≡ lease_of e.what (confirmed_intent e.what h) ++ filter (lives_on e.what (confirmed_intent e.what h)) (live h e.t)
live_step e h k =
    let alive : Lease → Bool = λ l. is_none (lease_end (e ∷ h) l e.t) in
    let le : last_time h ≤ e.t = in_time h e k in
    filter-append alive (lease_of e.what (confirmed_intent e.what h)) (leases h)
    ∙ ap (λ ls. ls ++ filter alive (leases h)) (filter_all alive (lease_of e.what (confirmed_intent e.what h)) (all_weaker (IsFresh e h) (λ l. alive l ≡ true) (λ l f. f.lives) (lease_of e.what (confirmed_intent e.what h)) (new_fresh e.what e.serial e.t h (allowed h e k))))
    ∙ ap (λ ls. lease_of e.what (confirmed_intent e.what h) ++ ls) (filter_filter_on alive (λ l. is_none (lease_end h l e.t)) (lives_on e.what (confirmed_intent e.what h)) (leases h) (all_weaker (IsOfConfirmed h) _ (λ l c. stays_live e h l le c) (leases h) (leases_confirmed h)))

-- ---- pending intents

more_unheard : (b : Bool) (m : ℕ) → nat_lt (cond b (suc m) m) 3 ≡ (nat_lt m 3 && not (b && nat_le 3 (suc m)))
more_unheard true m = grind (arith, nat_tests)
more_unheard false m = and_true _

-- `not (a || b) && x` where x is `c && d`
parted : (a b c d x : Bool) → x ≡ (c && d) → (not (a || b) && x) ≡ (not b && c && (not a && d))
parted true true c d x e = refl
parted true false true d x e = refl
parted true false false d x e = refl
parted false true c d x e = refl
parted false false c d x e = e

stays_pending_at : (e : Event) (h : List Event) (i : Intent) → is_pending (e ∷ h) i ≡ (is_pending h i && stays_pending e.what (waiting h i))
stays_pending_at e h i = parted (is_settled i.n e.what) (has (is_settled i.n) h) (nat_lt (times (is_unheard i.n) h) 3) (not (is_unheard i.n e.what && nat_le 3 (suc (times (is_unheard i.n) h)))) _ (more_unheard (is_unheard i.n e.what) (times (is_unheard i.n) h))

settled_about : (n : ℕ) (w : What) → is_settled n w ≡ true → is_about n w ≡ true
settled_about n (Confirmed m sent) k = k
settled_about n (Declined m code) k = k
settled_about n (Barred m reason) k = k
settled_about n _ k = absurd (false≢true k)

unheard_about : (n : ℕ) (w : What) → is_unheard n w ≡ true → is_about n w ≡ true
unheard_about n (Unheard m) k = k
unheard_about n _ k = absurd (false≢true k)

-- how often, where never
pub times_none : (p : What → Bool) (h : List Event) → has p h ≡ false → times p h ≡ 0
times_none p [] k = refl
times_none p (e ∷ h) k = let r = or_parts (p e.what) (has p h) k in rw r.0 (times_none p h r.1)

fresh : (h : List Event) → Legal h → (n : ℕ) → last_intent h < n → has (is_about n) h ≡ false
fresh h l n k = false_from_ne_true _ (λ y. let b : n ≤ last_intent h = about_le h l n y in absurd (omega arith))

record IsNew (e : Event) (h : List Event) (i : Intent) : Type 0 where
  pending : is_pending (e ∷ h) i ≡ true
  unheard : times (is_unheard i.n) (e ∷ h) ≡ 0

new_pending : (w : What) (s t : ℕ) (h : List Event) → Legal h → is_allowed w t h ≡ true → AllByRecursion (IsNew (record { serial = s; t = t; what = w }) h) (intents_of w)
new_pending (Asked i) s t h l k =
    let none = fresh h l i.n (ltb-true _ _ k) in
    let settled : has (is_settled i.n) h ≡ false = has_less (is_settled i.n) (is_about i.n) (settled_about i.n) h none in
    let unheard : times (is_unheard i.n) h ≡ 0 = times_none _ h (has_less (is_unheard i.n) (is_about i.n) (unheard_about i.n) h none) in
    (record { pending = rw (settled, unheard); unheard = unheard }, tt)
new_pending _ s t h l k = tt

pub pending_step : (e : Event) (h : List Event) → Legal h → accepts h e ≡ true → map (waiting (e ∷ h)) (pending (e ∷ h)) ≡ new_waiting e.what ++ map (unheard_more e.what) (filter (stays_pending e.what) (map (waiting h) (pending h)))
pending_step e h l k =
    let new = new_pending e.what e.serial e.t h l (allowed h e k) in
    ap (map (waiting (e ∷ h)))
    (filter-append (is_pending (e ∷ h)) (intents_of e.what) (asked h)
    ∙ ap (λ is. is ++ filter (is_pending (e ∷ h)) (asked h)) (filter_all (is_pending (e ∷ h)) (intents_of e.what) (all_weaker (IsNew e h) (λ i. is_pending (e ∷ h) i ≡ true) (λ i n. n.pending) (intents_of e.what) new))
    ∙ ap (λ is. intents_of e.what ++ is) (filter-filter (is_pending (e ∷ h)) (is_pending h) (λ i. stays_pending e.what (waiting h i)) (stays_pending_at e h) (asked h)))
    ∙ map-append (waiting (e ∷ h)) (intents_of e.what) (filter (λ i. stays_pending e.what (waiting h i)) (pending h))
    ∙ ap (λ ws. ws ++ map (waiting (e ∷ h)) (filter (λ i. stays_pending e.what (waiting h i)) (pending h)))
    (map_same (waiting (e ∷ h)) (λ i. record { intent = i; unheard = 0 }) (intents_of e.what) (all_weaker (IsNew e h) _ (λ i n j. record { intent = i; unheard = n.unheard j }) (intents_of e.what) new))
    ∙ ap (λ ws. new_waiting e.what ++ ws)
    (sym (map-map (waiting h) (unheard_more e.what) (filter (λ i. stays_pending e.what (waiting h i)) (pending h)))
    ∙ ap (map (unheard_more e.what)) (sym (filter-map (waiting h) (stays_pending e.what) (pending h))))

-- ---- owed pairs

missed_more : (b : Bool) (m : ℕ) → not (nat_le 8 (cond b (suc m) m)) ≡ (not (nat_le 8 m) && not (b && nat_le 8 (suc m)))
missed_more true m = grind (arith, nat_tests)
missed_more false m = and_true _

parted_owed : (a b c d x y z : Bool) → x ≡ (c && d) → (not (a || b) && x && (y && z)) ≡ (not b && c && y && (not a && d && z))
parted_owed true true c d x y z e = refl
parted_owed true false c d x y z e = and_false _
parted_owed false true c d x y z e = refl
parted_owed false false false d x y z e = rw e
parted_owed false false true true x y z e = rw e
parted_owed false false true false x y z e = rw e (and_false _)

stays_owed_at : (e : Event) (h : List Event) (p : Pair) → last_time h ≤ e.t → IsKnown h p → is_owed (fate (e ∷ h) p e.t) ≡ (is_owed (fate h p e.t) && stays_owed e.what (confirmed_intent e.what h) (owed_push h p))
stays_owed_at e h p le k =
    rw (is_owed_parts _ _ (lease_end (e ∷ h) p.lease e.t) _, is_owed_parts _ _ (lease_end h p.lease e.t) _, stays_live e h p.lease le k.confirmed)
    (parted_owed (is_push is_done p.version.ver p.lease.intent.n e.what) (has (is_push is_done p.version.ver p.lease.intent.n) h)
    (not (nat_le 8 (misses h p))) (not (is_missed e.what (owed_push h p) && nat_le 8 (suc (misses h p)))) _
    (is_none (lease_end h p.lease e.t)) (lives_on e.what (confirmed_intent e.what h) p.lease)
    (missed_more (is_missed e.what (owed_push h p)) (misses h p)))

after_miss_at : (b : Bool) (m born t last : ℕ) → next_by (cond b (suc m) m) born (cond b t last) ≡ cond b (t + delay (suc m)) (next_by m born last)
after_miss_at true m born t last = refl
after_miss_at false m born t last = refl

pub owing_step : (e : Event) (h : List Event) (p : Pair) → owed_push (e ∷ h) p ≡ after_miss e.t e.what (owed_push h p)
owing_step e h p i = record { version = p.version; lease = p.lease; tries = misses (e ∷ h) p; next = after_miss_at (is_missed e.what (owed_push h p)) (misses h p) p.born e.t (newest_time (is_push is_miss p.version.ver p.lease.intent.n) h) i }

-- a pair without a push
pub record IsUntried (e : Event) (h : List Event) (p : Pair) : Type 0 where
  pub owed : is_owed (fate (e ∷ h) p e.t) ≡ true
  pub owed_push : owed_push (e ∷ h) p ≡ new_push e.t p.version p.lease

no_push : (h : List Event) → Legal h → (test : How → Bool) (v n : ℕ) → (has (is_confirmed n) h ≡ false) ⊎ (has (is_fetched v) h ≡ false) → has (is_push test v n) h ≡ false
no_push h l test v n k = false_from_ne_true _ (λ y. let b = pushes_known h l test v n y in elim k [ inl c ↦ false≢true (sym c ∙ b.confirmed) | inr c ↦ false≢true (sym c ∙ b.fetched) ])

untried : (e : Event) (h : List Event) → Legal h → (p : Pair) → ((test : How → Bool) → is_push test p.version.ver p.lease.intent.n e.what ≡ false) → p.born ≡ e.t → (has (is_confirmed p.lease.intent.n) h ≡ false) ⊎ (has (is_fetched p.version.ver) h ≡ false) → is_none (lease_end (e ∷ h) p.lease e.t) ≡ true → IsUntried e h p
untried e h l p push born none lives =
    let done : has (is_push is_done p.version.ver p.lease.intent.n) (e ∷ h) ≡ false = or_from _ _ (push is_done) (no_push h l is_done _ _ none) in
    let missed : misses (e ∷ h) p ≡ 0 = times_none (is_push is_miss p.version.ver p.lease.intent.n) (e ∷ h) (or_from _ _ (push is_miss) (no_push h l is_miss _ _ none)) in
    let last : ℕ = newest_time (is_push is_miss p.version.ver p.lease.intent.n) (e ∷ h) in
    record {
      owed = rw (is_owed_parts _ _ (lease_end (e ∷ h) p.lease e.t) _, done, missed, lives);
      owed_push = λ i. record { version = p.version; lease = p.lease; tries = missed i; next = (ap (λ m. next_by m p.born last) missed ∙ born) i };
    }

born_fetched : (v : Version) (s t : ℕ) (h : List Event) → Legal h → last_time h ≤ t → is_allowed (Fetched v) t h ≡ true → AllByRecursion (IsUntried (record { serial = s; t = t; what = Fetched v }) h) (births t (Fetched v) None (live h t) (owed h t))
born_fetched v s t h l le k =
    let e : Event = record { serial = s; t = t; what = Fetched v } in
    let new : has (is_fetched v.ver) h ≡ false = false_from_ne_true _ (λ y. let a : v.ver ≤ last_version h = fetched_le h v.ver y in let b : last_version h < v.ver = ltb-true _ _ k in absurd (omega arith)) in
    let P : Lease → Type 0 = λ x. IsUntried e h (pair t v x) in
    all_map (IsUntried e h) (pair t v) (filter (λ x. bytes_eq x.intent.topic v.topic) (live h t))
    (all_filter P (λ x. bytes_eq x.intent.topic v.topic) (live h t)
    (all_weaker (λ x. IsOfConfirmed h x × (is_none (lease_end h x t) ≡ true)) P
    (λ x a. untried e h l (pair t v x) (λ test. refl) refl (inr new) (stays_live e h x le a.0 ∙ ap (λ b. b && true) a.1))
    (live h t) (all_filter_with (IsOfConfirmed h) (λ x. is_none (lease_end h x t)) (leases h) (leases_confirmed h))))

born_again : (n sent s t : ℕ) (h : List Event) → Legal h → (ls : List Lease) → AllByRecursion (IsFresh (record { serial = s; t = t; what = Confirmed n sent }) h) ls → AllByRecursion (IsUntried (record { serial = s; t = t; what = Confirmed n sent }) h) (carried t (owed h t) ls)
born_again n sent s t h l [] a = tt
born_again n sent s t h l (x ∷ xs) a =
    let e : Event = record { serial = s; t = t; what = Confirmed n sent } in
    all_map (IsUntried e h) (λ p. pair t p.version x) (filter (λ p. same_pair x.intent p.lease.intent) (owed h t))
    (all_from (λ p. IsUntried e h (pair t p.version x)) (λ p. untried e h l (pair t p.version x) (λ test. refl) refl (inl a.0.unconfirmed) a.0.lives) (filter (λ p. same_pair x.intent p.lease.intent) (owed h t)))

pub births_untried : (w : What) (s t : ℕ) (h : List Event) → Legal h → last_time h ≤ t → is_allowed w t h ≡ true → AllByRecursion (IsUntried (record { serial = s; t = t; what = w }) h) (births t w (confirmed_intent w h) (live h t) (owed h t))
births_untried (Fetched v) s t h l le k = born_fetched v s t h l le k
births_untried (Confirmed n sent) s t h l le k = born_again n sent s t h l (lease_by sent (confirmed_intent (Confirmed n sent) h)) (new_fresh (Confirmed n sent) s t h k)
births_untried _ s t h l le k = tt

abbrev untried_owing : ℕ → Pair → OwedPush
untried_owing t p = new_push t p.version p.lease

reborn_in : (t : ℕ) (h : List Event) (ps : List Pair) (ls : List Lease) → map (untried_owing t) (carried t ps ls) ≡ owed_afresh t (map (owed_push h) ps) ls
reborn_in t h ps [] = refl
reborn_in t h ps (l ∷ ls) =
    map-map (λ p. pair t p.version l) (untried_owing t) (filter (λ p. same_pair l.intent p.lease.intent) ps)
    ∙ sym (map-map (owed_push h) (λ w. new_push t w.version l) (filter (λ p. same_pair l.intent p.lease.intent) ps))
    ∙ ap (map (λ w. new_push t w.version l)) (sym (filter-map (owed_push h) (λ w. same_pair l.intent w.lease.intent) ps))

pub births_in : (w : What) (t : ℕ) (o : Option Intent) (h : List Event) → map (untried_owing t) (births t w o (live h t) (owed h t)) ≡ new_pushes t w o (view h t)
births_in (Fetched v) t o h = map-map (pair t v) (untried_owing t) _
births_in (Confirmed n sent) t o h = reborn_in t h (owed h t) (lease_by sent o)
births_in _ t o h = refl

pub owed_step : (e : Event) (h : List Event) → Legal h → accepts h e ≡ true → map (owed_push (e ∷ h)) (owed (e ∷ h) e.t) ≡ new_pushes e.t e.what (confirmed_intent e.what h) (view h e.t) ++ map (after_miss e.t e.what) (filter (stays_owed e.what (confirmed_intent e.what h)) (map (owed_push h) (owed h e.t)))
owed_step e h l k =
    let le : last_time h ≤ e.t = in_time h e k in
    let o : Option Intent = confirmed_intent e.what h in
    let bs : List Pair = births e.t e.what o (live h e.t) (owed h e.t) in
    let test : Pair → Bool = λ p. is_owed (fate (e ∷ h) p e.t) in
    let kept : List Pair = filter (λ p. stays_owed e.what o (owed_push h p)) (owed h e.t) in
    let new : AllByRecursion (IsUntried e h) bs = births_untried e.what e.serial e.t h l le (allowed h e k) in
    ap (map (owed_push (e ∷ h)))
    (filter-append test bs (pairs h)
    ∙ ap (λ ps. ps ++ filter test (pairs h)) (filter_all test bs (all_weaker (IsUntried e h) (λ p. test p ≡ true) (λ p u. u.owed) bs new))
    ∙ ap (λ ps. bs ++ ps) (filter_filter_on test (λ p. is_owed (fate h p e.t)) (λ p. stays_owed e.what o (owed_push h p)) (pairs h) (all_weaker (IsKnown h) _ (λ p known. stays_owed_at e h p le known) (pairs h) (pairs_known h))))
    ∙ map-append (owed_push (e ∷ h)) bs kept
    ∙ ap (λ ws. ws ++ map (owed_push (e ∷ h)) kept)
    (map_same (owed_push (e ∷ h)) (untried_owing e.t) bs (all_weaker (IsUntried e h) (λ p. owed_push (e ∷ h) p ≡ untried_owing e.t p) (λ p u. u.owed_push) bs new) ∙ births_in e.what e.t o h)
    ∙ ap (λ ws. new_pushes e.t e.what o (view h e.t) ++ ws)
    (map_same (owed_push (e ∷ h)) (λ p. after_miss e.t e.what (owed_push h p)) kept (all_from (λ p. owed_push (e ∷ h) p ≡ after_miss e.t e.what (owed_push h p)) (owing_step e h) kept)
    ∙ sym (map-map (owed_push h) (after_miss e.t e.what) kept)
    ∙ ap (map (after_miss e.t e.what)) (sym (filter-map (owed_push h) (stays_owed e.what o) (owed h e.t))))
