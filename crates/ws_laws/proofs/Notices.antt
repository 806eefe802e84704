-- The owed notices after one more event.
use Rattle.std.proofs.Common.{◌≡◌, ℕ, suc, ◌≤◌, ◌<◌, Bool, true, false, cond, not, ◌&&◌, ◌||◌, List, [], ◌∷◌, ◌++◌, refl, ap, sym, ◌∙◌, subst, arith}
use Rattle.std.specs.Prelude.{nat_lt, nat_le, is_none, Option, Some, None, map, filter, find, ◌==◌}
use Rattle.std.specs.List.{AllByRecursion, list_any}
use Rattle.std.proofs.lemmas.Bool.Decides.{nat_tests}
use Rattle.std.proofs.lemmas.Bool.{eqb-true, ltb-true, false≢true, false_from_ne_true}
use Rattle.std.proofs.lemmas.List.Elements.{filter-append}
use Rattle.ws_model.specs.declared.event.What.TheVariants.{Asked, Confirmed, Barred, Revoked}
use Rattle.ws_model.specs.declared.event.Event.{Event}
use Rattle.ws_model.specs.declared.event.Intent.{Intent}
use Rattle.ws_model.specs.declared.event.What.{What}
use Rattle.ws_laws.proofs.Denied.{barred_undenied, new_undenied, not_noticed, pending_named, revoked_undenied}
use Rattle.ws_laws.proofs.Known.{allowed, asked_le, in_time}
use Rattle.ws_laws.proofs.ListLaws.{all_append, all_filter, all_filter_with, all_find, all_from, all_weaker, filter-filter, filter-map, filter_same, map-map, map_same}
use Rattle.ws_laws.proofs.Step.{find_pending, named_pending, times_none}
use Rattle.ws_laws.specs.Steps.{found, is_newer, notice_by, notice_unheard_more, notices_after, stays_noticed, waiting_of, with_notice}
use Rattle.ws_model.specs.Due.{place}
use Rattle.ws_model.specs.History.{has, times}
use Rattle.ws_model.specs.Intents.{asked, intents_of, is_denied, is_noticed, is_owed_notice, is_pending_number, notices}
use Rattle.ws_model.specs.Leases.{confirmed_intent, is_on, lease_by, lease_end, lease_of, leases, live}
use Rattle.ws_model.specs.Legal.{Legal, accepts, is_allowed, is_on_one}
use Rattle.ws_model.specs.Moment.{last_intent, last_time}
use Rattle.ws_model.specs.View.{owed_notice, reason_in, reason_of, view}
use Rattle.ws_model.specs.declared.lease.Lease.{Lease}

-- ---- the intents stand in order, the newest first

abbrev pub IsDescending : List Intent → Type 0
IsDescending [] = Unit {0}
IsDescending (i ∷ is) = AllByRecursion (λ (j : Intent). j.n < i.n) is × IsDescending is

descending_one : (w : What) (t : ℕ) (h : List Event) → is_allowed w t h ≡ true → IsDescending (asked h) → IsDescending (intents_of w ++ asked h)
descending_one (Asked i) t h k d =
    let new : last_intent h < i.n = ltb-true _ _ k in
    (all_weaker (λ (j : Intent). j.n ≤ last_intent h) (λ (j : Intent). j.n < i.n) (λ j a. omega arith) (asked h) (asked_le h), d)
descending_one _ t h k d = d

pub asked_descending : (h : List Event) → Legal h → IsDescending (asked h)
asked_descending [] l = tt
asked_descending (e ∷ h) l = descending_one e.what e.t h (allowed h e l.1) (asked_descending h l.0)

-- ---- one more element in its place

abbrev newer : Intent → Intent → Bool
newer i j = nat_lt j.n i.n

place_first : (i : Intent) (ys : List Intent) → AllByRecursion (λ (j : Intent). nat_lt j.n i.n ≡ true) ys → place newer i ys ≡ i ∷ ys
place_first i [] a = refl
place_first i (y ∷ ys) a = rw a.0

below : (m n : ℕ) → m < n → nat_lt m n ≡ true
below m n k = grind (arith, nat_tests)

not_above : (m n : ℕ) → m < n → nat_lt n m ≡ false
not_above m n k = grind (arith, nat_tests)

unlike : (m n : ℕ) → m < n → (m == n) ≡ false
unlike m n k = grind (arith, nat_tests)

-- a test that passes besides at one number puts the element of that number in its place
module _ (n : ℕ) (q p : Intent → Bool) (there : (j : Intent) → (j.n == n) ≡ true → (q j ≡ true) × (p j ≡ false)) (elsewhere : (j : Intent) → (j.n == n) ≡ false → q j ≡ p j) where
  at_number : (x i : Intent) (xs : List Intent) → (x.n == n) ≡ true → AllByRecursion (λ (j : Intent). j.n < x.n) xs → x ≡ i → filter q (x ∷ xs) ≡ place newer i (filter p (x ∷ xs))
  at_number x i xs e a s =
      let b = there x e in
      let lower : AllByRecursion (λ (j : Intent). j.n < i.n) xs = subst (λ (y : Intent). AllByRecursion (λ (j : Intent). j.n < y.n) xs) s a in
      let same : filter q xs ≡ filter p xs = filter_same q p xs (all_weaker (λ (j : Intent). j.n < x.n) (λ j. q j ≡ p j) (λ j c. elsewhere j (ap (λ m. j.n == m) (sym (eqb-true x.n n e)) ∙ unlike j.n x.n c)) xs a) in
      rw (b.0, b.1) (ap (λ ys. x ∷ ys) same ∙ ap (λ y. y ∷ filter p xs) s
      ∙ sym (place_first i (filter p xs) (all_filter (λ (j : Intent). nat_lt j.n i.n ≡ true) p xs (all_weaker (λ (j : Intent). j.n < i.n) (λ (j : Intent). nat_lt j.n i.n ≡ true) (λ j c. below j.n i.n c) xs lower))))

  after_it : (x i : Intent) (b : Bool) (ys zs : List Intent) → i.n < x.n → ys ≡ place newer i zs → cond b (x ∷ ys) ys ≡ place newer i (cond b (x ∷ zs) zs)
  after_it x i true ys zs c e = rw (not_above i.n x.n c) (ap (λ rest. x ∷ rest) e)
  after_it x i false ys zs c e = e

  pub placed : (i : Intent) (xs : List Intent) → IsDescending xs → find (λ j. j.n == n) xs ≡ Some i → filter q xs ≡ place newer i (filter p xs)
  placed i [] d e = absurd (grind arith)
  placed i (x ∷ xs) d e = one (x.n == n) refl e (placed i xs d.1)
    where
      one : (b : Bool) → (x.n == n) ≡ b → cond b (Some x) (find (λ j. j.n == n) xs) ≡ Some i → (find (λ j. j.n == n) xs ≡ Some i → filter q xs ≡ place newer i (filter p xs)) → filter q (x ∷ xs) ≡ place newer i (filter p (x ∷ xs))
      one true k f r = at_number x i xs k d.0 cc
      one false k f r = rw (elsewhere x k) (after_it x i (p x) (filter q xs) (filter p xs) (all_find (λ (j : Intent). j.n < x.n) (λ j. j.n == n) i xs d.0 f).0 (r f))

map_place : (h : List Event) (i : Intent) (ys : List Intent) → map (owed_notice h) (place newer i ys) ≡ place is_newer (owed_notice h i) (map (owed_notice h) ys)
map_place h i [] = refl
map_place h i (y ∷ ys) = one (nat_lt y.n i.n) (map_place h i ys)
  where
    one : (b : Bool) → map (owed_notice h) (place newer i ys) ≡ place is_newer (owed_notice h i) (map (owed_notice h) ys)
        → map (owed_notice h) (cond b (i ∷ y ∷ ys) (y ∷ place newer i ys)) ≡ cond b (owed_notice h i ∷ owed_notice h y ∷ map (owed_notice h) ys) (owed_notice h y ∷ place is_newer (owed_notice h i) (map (owed_notice h) ys))
    one true r = refl
    one false r = ap (λ zs. owed_notice h y ∷ zs) r

-- ---- an event that denies an intent

-- it denies the intent of number n for this reason, and does nothing else to notices
record Denies (w : What) (n : ℕ) (reason : List ℕ) : Type 0 where
  no_intents : intents_of w ≡ []
  denies : (m : ℕ) → is_denied m w ≡ (n == m)
  quiet : (m : ℕ) (b : Bool) → is_noticed m b w ≡ false
  says : (m : ℕ) (rest : List ℕ) → reason_in m w rest ≡ cond (n == m) reason rest

barring : (n : ℕ) (reason : List ℕ) → Denies (Barred n reason) n reason
barring n reason = record { no_intents = refl; denies = λ m. refl; quiet = λ m b. refl; says = λ m rest. refl }

revoking : (n : ℕ) (reason : List ℕ) → Denies (Revoked n reason) n reason
revoking n reason = record { no_intents = refl; denies = λ m. refl; quiet = λ m b. refl; says = λ m rest. refl }

swapped : (m n : ℕ) (b : Bool) → (m == n) ≡ b → (n == m) ≡ b
swapped m n true e = grind (arith, nat_tests)
swapped m n false e = grind (arith, nat_tests)

module _ (w : What) (s t n : ℕ) (reason : List ℕ) (does : Denies w n reason) (h : List Event) (l : Legal h) (undenied : has (is_denied n) h ≡ false) where
  abbrev event : Event
  event = record { serial = s; t = t; what = w }

  newly : (j : Intent) → (j.n == n) ≡ true → (is_owed_notice (event ∷ h) j ≡ true) × (is_owed_notice h j ≡ false)
  newly j e =
      let is : j.n ≡ n = eqb-true j.n n e in
      let un : has (is_denied j.n) h ≡ false = ap (λ m. has (is_denied m) h) is ∙ undenied in
      let heard : has (is_noticed j.n true) h ≡ false = not_noticed h l j.n true un in
      let none : times (is_noticed j.n false) h ≡ 0 = times_none (is_noticed j.n false) h (not_noticed h l j.n false un) in
      (rw (does.denies j.n, swapped j.n n true e, does.quiet j.n true, does.quiet j.n false, heard, none), rw un)

  as_before : (j : Intent) → (j.n == n) ≡ false → is_owed_notice (event ∷ h) j ≡ is_owed_notice h j
  as_before j e = rw (does.denies j.n, swapped j.n n false e, does.quiet j.n true, does.quiet j.n false)

  new_one : (i : Intent) → (i.n == n) ≡ true → owed_notice (event ∷ h) i ≡ record { intent = i; reason = reason; unheard = 0 }
  new_one i e =
      let is : i.n ≡ n = eqb-true i.n n e in
      let un : has (is_denied i.n) h ≡ false = ap (λ m. has (is_denied m) h) is ∙ undenied in
      let none : times (is_noticed i.n false) h ≡ 0 = times_none (is_noticed i.n false) h (not_noticed h l i.n false un) in
      let said : reason_of i.n (event ∷ h) ≡ reason = does.says i.n (reason_of i.n h) ∙ ap (λ b. cond b reason (reason_of i.n h)) (swapped i.n n true e) in
      let count : times (is_noticed i.n false) (event ∷ h) ≡ 0 = ap (λ b. cond b (suc (times (is_noticed i.n false) h)) (times (is_noticed i.n false) h)) (does.quiet i.n false) ∙ none in
      λ k. record { intent = i; reason = said k; unheard = count k }

  old_one : (j : Intent) → is_owed_notice h j ≡ true → owed_notice (event ∷ h) j ≡ owed_notice h j
  old_one j k =
      let other : (j.n == n) ≡ false = false_from_ne_true _ (λ y. false≢true (sym (newly j y).1 ∙ k)) in
      let said : reason_of j.n (event ∷ h) ≡ reason_of j.n h = does.says j.n (reason_of j.n h) ∙ ap (λ b. cond b reason (reason_of j.n h)) (swapped j.n n false other) in
      let count : times (is_noticed j.n false) (event ∷ h) ≡ times (is_noticed j.n false) h = ap (λ b. cond b (suc (times (is_noticed j.n false) h)) (times (is_noticed j.n false) h)) (does.quiet j.n false) in
      λ i. record { intent = j; reason = said i; unheard = count i }

  denied_step : (i : Intent) → find (λ j. j.n == n) (asked h) ≡ Some i
      → map (owed_notice (event ∷ h)) (notices (event ∷ h)) ≡ place is_newer (record { intent = i; reason = reason; unheard = 0 }) (map (owed_notice h) (notices h))
  denied_step i e =
      let same : (i.n == n) ≡ true = (all_find (λ (j : Intent). Unit {0}) (λ j. j.n == n) i (asked h) (all_from (λ (j : Intent). Unit {0}) (λ j. tt) (asked h)) e).1 in
      ap (map (owed_notice (event ∷ h)))
      (ap (λ is. filter (is_owed_notice (event ∷ h)) (is ++ asked h)) does.no_intents
      ∙ placed n (is_owed_notice (event ∷ h)) (is_owed_notice h) newly as_before i (asked h) (asked_descending h l) e)
      ∙ map_place (event ∷ h) i (notices h)
      ∙ ap (λ o. place is_newer o (map (owed_notice (event ∷ h)) (notices h))) (new_one i same)
      ∙ ap (place is_newer (record { intent = i; reason = reason; unheard = 0 }))
      (map_same (owed_notice (event ∷ h)) (owed_notice h) (notices h)
      (all_weaker (λ (j : Intent). Unit {0} × (is_owed_notice h j ≡ true)) (λ j. owed_notice (event ∷ h) j ≡ owed_notice h j) (λ j a. old_one j a.1) (notices h)
      (all_filter_with (λ (j : Intent). Unit {0}) (is_owed_notice h) (asked h) (all_from (λ (j : Intent). Unit {0}) (λ j. tt) (asked h)))))

-- ---- any other event

more_unnoticed : (b : Bool) (m : ℕ) → nat_lt (cond b (suc m) m) 3 ≡ (nat_lt m 3 && not (b && nat_le 3 (suc m)))
more_unnoticed true m = grind (arith, nat_tests)
more_unnoticed false m = one (nat_lt m 3)
  where
    one : (b : Bool) → b ≡ (b && true)
    one true = refl
    one false = refl

parted_notice : (a b c d x y : Bool) → x ≡ (c && d) → (y && not (a || b) && x) ≡ (y && not b && c && (not a && d))
parted_notice a b c d x false e = refl
parted_notice true true c d x true e = refl
parted_notice true false true d x true e = refl
parted_notice true false false d x true e = refl
parted_notice false true c d x true e = refl
parted_notice false false c d x true e = e

record Keeps (w : What) : Type 0 where
  undenying : (m : ℕ) → is_denied m w ≡ false
  says : (m : ℕ) (rest : List ℕ) → reason_in m w rest ≡ rest

module _ (w : What) (s t : ℕ) (does : Keeps w) (h : List Event) where
  abbrev other_event : Event
  other_event = record { serial = s; t = t; what = w }

  stays_at : (j : Intent) → is_owed_notice (other_event ∷ h) j ≡ (is_owed_notice h j && stays_noticed w (owed_notice h j))
  stays_at j =
      rw (does.undenying j.n)
      (parted_notice (is_noticed j.n true w) (has (is_noticed j.n true) h) (nat_lt (times (is_noticed j.n false) h) 3)
      (not (is_noticed j.n false w && nat_le 3 (suc (times (is_noticed j.n false) h)))) _ (has (is_denied j.n) h)
      (more_unnoticed (is_noticed j.n false w) (times (is_noticed j.n false) h)))

  noticed_more : (j : Intent) → owed_notice (other_event ∷ h) j ≡ notice_unheard_more w (owed_notice h j)
  noticed_more j i = record { intent = j; reason = does.says j.n (reason_of j.n h) i; unheard = times (is_noticed j.n false) (other_event ∷ h) }

  kept_step : filter (is_owed_notice (other_event ∷ h)) (intents_of w) ≡ []
      → map (owed_notice (other_event ∷ h)) (notices (other_event ∷ h)) ≡ map (notice_unheard_more w) (filter (stays_noticed w) (map (owed_notice h) (notices h)))
  kept_step none =
      let kept : List Intent = filter (λ j. stays_noticed w (owed_notice h j)) (notices h) in
      ap (map (owed_notice (other_event ∷ h)))
      (filter-append (is_owed_notice (other_event ∷ h)) (intents_of w) (asked h)
      ∙ ap (λ is. is ++ filter (is_owed_notice (other_event ∷ h)) (asked h)) none
      ∙ filter-filter (is_owed_notice (other_event ∷ h)) (is_owed_notice h) (λ j. stays_noticed w (owed_notice h j)) stays_at (asked h))
      ∙ map_same (owed_notice (other_event ∷ h)) (λ j. notice_unheard_more w (owed_notice h j)) kept (all_from (λ j. owed_notice (other_event ∷ h) j ≡ notice_unheard_more w (owed_notice h j)) noticed_more kept)
      ∙ sym (map-map (owed_notice h) (notice_unheard_more w) kept)
      ∙ ap (map (notice_unheard_more w)) (sym (filter-map (owed_notice h) (stays_noticed w) (notices h)))

unnoticed : (i : Intent) (s t : ℕ) (h : List Event) → Legal h → is_allowed (Asked i) t h ≡ true → filter (is_owed_notice (record { serial = s; t = t; what = Asked i } ∷ h)) (i ∷ []) ≡ []
unnoticed i s t h l k = rw (new_undenied h l i.n (ltb-true _ _ k))

-- ---- the intent that is denied

waiting_named : (h : List Event) (t n : ℕ) → is_pending_number h n ≡ true → waiting_of (view h t) n ≡ find (λ i. i.n == n) (asked h)
waiting_named h t n k = named_pending h n ∙ find_pending h n ∙ ap (λ b. cond b (find (λ i. i.n == n) (asked h)) None) k

all_kept : {X : Type 0} (xs : List X) → filter (λ x. true) xs ≡ xs
all_kept [] = refl
all_kept (x ∷ xs) = ap (λ ys. x ∷ ys) (all_kept xs)

map_itself : {X : Type 0} (xs : List X) → map (λ x. x) xs ≡ xs
map_itself [] = refl
map_itself (x ∷ xs) = ap (λ ys. x ∷ ys) (map_itself xs)

record IsFound (n : ℕ) (ls : List Lease) : Type 0 where
  lease : Lease
  is : find (λ l. l.intent.n == n) ls ≡ Some lease

found_one : (n : ℕ) (ls : List Lease) → list_any (λ (l : Lease). l.intent.n == n) ls ≡ true → IsFound n ls
found_one n [] k = absurd (false≢true k)
found_one n (x ∷ xs) k = one (x.intent.n == n) refl k (found_one n xs)
  where
    one : (b : Bool) → (x.intent.n == n) ≡ b → (b || list_any (λ (l : Lease). l.intent.n == n) xs) ≡ true → (list_any (λ (l : Lease). l.intent.n == n) xs ≡ true → IsFound n xs) → IsFound n (x ∷ xs)
    one true e a f = record { lease = x; is = rw e }
    one false e a f = let r = f a in record { lease = r.lease; is = rw e r.is }

-- an intent that was asked stays found
found_later : (w : What) (t : ℕ) (h : List Event) → is_allowed w t h ≡ true → (n : ℕ) (i : Intent) → find (λ j. j.n == n) (asked h) ≡ Some i → find (λ j. j.n == n) (intents_of w ++ asked h) ≡ Some i
found_later (Asked j) t h k n i e =
    let q = all_find (λ (x : Intent). x.n ≤ last_intent h) (λ x. x.n == n) i (asked h) (asked_le h) e in
    let low : n ≤ last_intent h = subst (λ m. m ≤ last_intent h) (eqb-true i.n n q.1) q.0 in
    let high : last_intent h < j.n = ltb-true _ _ k in
    let less : n < j.n = omega arith in
    rw (swapped n j.n false (unlike n j.n less)) e
found_later _ t h k n i e = e

-- the intent of a lease is the one that was asked with its number
abbrev IsAskedOf : List Event → Lease → Type 0
IsAskedOf h l = find (λ i. i.n == l.intent.n) (asked h) ≡ Some l.intent

asked_by : (h : List Event) (n sent : ℕ) (o : Option Intent) → find (λ i. i.n == n) (asked h) ≡ o → AllByRecursion (IsAskedOf h) (lease_by sent o)
asked_by h n sent None e = tt
asked_by h n sent (Some i) e = one (is_on i.mode)
  where
    same : i.n ≡ n
    same = eqb-true i.n n (all_find (λ (j : Intent). Unit {0}) (λ j. j.n == n) i (asked h) (all_from (λ (j : Intent). Unit {0}) (λ j. tt) (asked h)) e).1

    one : (b : Bool) → AllByRecursion (IsAskedOf h) (cond b (record { intent = i; sent = sent } ∷ []) [])
    one true = (ap (λ m. find (λ j. j.n == m) (asked h)) same ∙ e, tt)
    one false = tt

asked_new : (w : What) (s t : ℕ) (h : List Event) → AllByRecursion (IsAskedOf (record { serial = s; t = t; what = w } ∷ h)) (lease_of w (confirmed_intent w h))
asked_new (Confirmed n sent) s t h = asked_by h n sent (find (λ i. i.n == n) (asked h)) refl
asked_new _ s t h = tt

pub leases_asked : (h : List Event) → Legal h → AllByRecursion (IsAskedOf h) (leases h)
leases_asked [] l = tt
leases_asked (e ∷ h) l =
    all_append (IsAskedOf (e ∷ h)) (lease_of e.what (confirmed_intent e.what h)) (leases h) (asked_new e.what e.serial e.t h)
    (all_weaker (IsAskedOf h) (IsAskedOf (e ∷ h)) (λ x a. found_later e.what e.t h (allowed h e l.1) x.intent.n x.intent a) (leases h) (leases_asked h l.0))

-- ---- all events

bars : (n : ℕ) (reason : List ℕ) (s t : ℕ) (h : List Event) → Legal h → is_allowed (Barred n reason) t h ≡ true → (o : Option Intent) → find (λ j. j.n == n) (asked h) ≡ o
    → map (owed_notice (record { serial = s; t = t; what = Barred n reason } ∷ h)) (notices (record { serial = s; t = t; what = Barred n reason } ∷ h)) ≡ notices_after (Barred n reason) (view h t)
bars n reason s t h l k None e = absurd (false≢true (sym (ap is_on_one (find_pending h n ∙ ap (λ o. cond (is_pending_number h n) o None) e ∙ nothing (is_pending_number h n))) ∙ k))
  where
    nothing : (b : Bool) → ◌≡◌ {A = Option Intent} (cond b None None) None
    nothing true = refl
    nothing false = refl
bars n reason s t h l k (Some i) e =
    let p : is_pending_number h n ≡ true = pending_named is_on_one refl h n k in
    denied_step (Barred n reason) s t n reason (barring n reason) h l (barred_undenied h l n p) i e
    ∙ ap (place is_newer (record { intent = i; reason = reason; unheard = 0 })) (sym (map_itself (filter (λ x. true) (map (owed_notice h) (notices h))) ∙ all_kept (map (owed_notice h) (notices h))))
    ∙ sym (ap (λ o. with_notice (notice_by reason o) (map (λ x. x) (filter (λ x. true) (map (owed_notice h) (notices h))))) (waiting_named h t n p ∙ e))

revokes : (n : ℕ) (reason : List ℕ) (s t : ℕ) (h : List Event) → Legal h → last_time h ≤ t → is_allowed (Revoked n reason) t h ≡ true
    → map (owed_notice (record { serial = s; t = t; what = Revoked n reason } ∷ h)) (notices (record { serial = s; t = t; what = Revoked n reason } ∷ h)) ≡ notices_after (Revoked n reason) (view h t)
revokes n reason s t h l le k =
    let f = found_one n (live h t) k in
    let q = all_find (IsAskedOf h) (λ x. x.intent.n == n) f.lease (live h t) (all_filter (IsAskedOf h) (λ x. is_none (lease_end h x t)) (leases h) (leases_asked h l)) f.is in
    let named : find (λ j. j.n == n) (asked h) ≡ Some f.lease.intent = subst (λ m. find (λ j. j.n == m) (asked h) ≡ Some f.lease.intent) (eqb-true f.lease.intent.n n q.1) q.0 in
    denied_step (Revoked n reason) s t n reason (revoking n reason) h l (revoked_undenied h l t le n k) f.lease.intent named
    ∙ ap (place is_newer (record { intent = f.lease.intent; reason = reason; unheard = 0 })) (sym (map_itself (filter (λ x. true) (map (owed_notice h) (notices h))) ∙ all_kept (map (owed_notice h) (notices h))))
    ∙ sym (ap (λ o. with_notice (notice_by reason (found (λ x. x.intent) o)) (map (λ x. x) (filter (λ x. true) (map (owed_notice h) (notices h))))) f.is)

by_kind : (w : What) (s t : ℕ) (h : List Event) → Legal h → last_time h ≤ t → is_allowed w t h ≡ true
    → map (owed_notice (record { serial = s; t = t; what = w } ∷ h)) (notices (record { serial = s; t = t; what = w } ∷ h)) ≡ notices_after w (view h t)
by_kind (Barred n reason) s t h l le k = bars n reason s t h l k _ refl
by_kind (Revoked n reason) s t h l le k = revokes n reason s t h l le k
by_kind (Asked i) s t h l le k = kept_step (Asked i) s t (record { undenying = λ m. refl; says = λ m rest. refl }) h (unnoticed i s t h l k)
by_kind w s t h l le k = kept_step w s t (record { undenying = λ m. refl; says = λ m rest. refl }) h refl

pub notices_step : (e : Event) (h : List Event) → Legal h → accepts h e ≡ true → map (owed_notice (e ∷ h)) (notices (e ∷ h)) ≡ notices_after e.what (view h e.t)
notices_step e h l k = by_kind e.what e.serial e.t h l (in_time h e k) (allowed h e k)
