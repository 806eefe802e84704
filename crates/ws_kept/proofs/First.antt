-- The leases that are live, and those whose notices are owed, are told by the events that asked for and confirmed them.
use Rattle.std.proofs.Common.{◌≡◌, ℕ, ◌≤◌, ◌<◌, Bool, true, false, cond, ◌&&◌, ◌||◌, List, [], ◌∷◌, ◌++◌, refl, ap, sym, ◌∙◌, subst, arith, inl, inr}
use Rattle.std.specs.Prelude.{Option, Some, None, is_none, is_some, filter, find, ◌==◌}
use Rattle.std.specs.List.{AllByRecursion, list_any}
use Rattle.std.proofs.lemmas.Bool.{and_from, and_parts, eqb-true, false≢true, ltb-true, or_cases, or_left, or_right}
use Rattle.std.proofs.lemmas.Bool.Decides.{nat_tests}
use Rattle.std.proofs.lemmas.List.Folds.{list_any-append}
use Rattle.ws_model.specs.declared.event.Event.{Event}
use Rattle.ws_model.specs.declared.event.Intent.{Intent}
use Rattle.ws_model.specs.declared.event.What.{What}
use Rattle.ws_model.specs.declared.event.What.TheVariants.{Asked, Confirmed, Fetched, Pushed}
use Rattle.ws_model.specs.declared.lease.Lease.{Lease}
use Rattle.ws_model.specs.History.{has}
use Rattle.ws_model.specs.Intents.{asked, intents_of, is_owed_notice, is_owed_notice_number, notices}
use Rattle.ws_model.specs.Keep.{first_kept, member, numbers}
use Rattle.ws_model.specs.Leases.{confirmed_intent, is_confirmed, is_on, lease_by, lease_end, lease_of, leases, live}
use Rattle.ws_model.specs.Legal.{Legal, is_allowed, is_on_one}
use Rattle.ws_model.specs.Moment.{last_intent, last_time}
use Rattle.ws_laws.proofs.Ended.{both_true}
use Rattle.ws_laws.proofs.Follow.{some_found}
use Rattle.ws_laws.proofs.Known.{about_le, allowed, is_about, leases_confirmed}
use Rattle.ws_laws.proofs.ListLaws.{all_append, all_filter, all_filter_with, all_find, all_from, any_then, find-filter}
use Rattle.ws_laws.proofs.Notices.{leases_asked}
use Rattle.ws_compaction.proofs.Fetches.{any_more}
use Rattle.ws_compaction.proofs.Replaced.{any-map, member_cases, member_left, member_right}
use Rattle.ws_lease.proofs.SortedEntries.{any_filter}
use Rattle.ws_tries.specs.Stands.{is_any_push}
use Rattle.ws_compaction.specs.Least.{has_number}
use Rattle.ws_kept.specs.Finding.{gives_lease, is_noticed}
use Rattle.ws_kept.specs.Stands.{light, log_of}
use Rattle.ws_kept.proofs.Lists.{any_log, both_ways, each_any}

has_more : (p q : What → Bool) → ((w : What) → p w ≡ true → q w ≡ true) → (h : List Event) → has p h ≡ true → has q h ≡ true
has_more p q f h k = any_more (λ e. p e.what) (λ e. q e.what) (λ e. f e.what) h k

-- ---- what was asked for

-- a test of an intent that was asked for, of the event that asked for it
asked_has : (q : What → Bool) (h : List Event) → list_any (λ i. q (Asked i)) (asked h) ≡ true → has q h ≡ true
asked_has q [] k = k
asked_has q (e ∷ h) k = one e.what k (asked_has q h)
  where
    one : (w : What) → list_any (λ i. q (Asked i)) (intents_of w ++ asked h) ≡ true → (list_any (λ i. q (Asked i)) (asked h) ≡ true → has q h ≡ true) → (q w || has q h) ≡ true
    one (Asked i) k f = elim (or_cases (q (Asked i)) (list_any (λ j. q (Asked j)) (asked h)) k) [ inl a ↦ or_left _ _ a | inr a ↦ or_right (q (Asked i)) _ (f a) ]
    one w k f = or_right (q w) _ (f k)

-- an event asks for no number that was confirmed
asked_before : (w : What) (t : ℕ) (h : List Event) (n : ℕ) (i : Intent) → is_allowed w t h ≡ true → n ≤ last_intent h → find (λ j. j.n == n) (intents_of w ++ asked h) ≡ Some i → find (λ j. j.n == n) (asked h) ≡ Some i
asked_before (Asked j) t h n i k le e = rw (apart j.n n (last_intent h) (ltb-true _ _ k) le) at e
  where
    apart : (m n k : ℕ) → k < m → n ≤ k → (m == n) ≡ false
    apart m n k a b = grind (arith, nat_tests)
asked_before w t h n i k le e = e

confirmed_about : (n : ℕ) (w : What) → is_confirmed n w ≡ true → is_about n w ≡ true
confirmed_about n (Confirmed m sent) k = k
confirmed_about n _ k = absurd (false≢true k)

-- a subscription that was confirmed made a lease
made_by : (w : What) (h : List Event) (n : ℕ) (i : Intent) → is_confirmed n w ≡ true → find (λ j. j.n == n) (intents_of w ++ asked h) ≡ Some i → is_on i.mode ≡ true → list_any (λ (l : Lease). l.intent.n == n) (lease_of w (confirmed_intent w h) ++ leases h) ≡ true
made_by (Confirmed m sent) h n i k e on =
    ap (λ o. list_any (λ (l : Lease). l.intent.n == n) (lease_by sent o ++ leases h)) (ap (λ z. find (λ j. j.n == z) (asked h)) (eqb-true m n k) ∙ e)
    ∙ ap (λ b. list_any (λ (l : Lease). l.intent.n == n) (cond b (record { intent = i; sent = sent } ∷ []) [] ++ leases h)) on
    ∙ or_left _ _ (all_find (λ (j : Intent). Unit {0}) (λ j. j.n == n) i (asked h) (all_from (λ (j : Intent). Unit {0}) (λ j. tt) (asked h)) e).1
made_by _ h n i k e on = absurd (false≢true k)

made : (h : List Event) → Legal h → (n : ℕ) (i : Intent) → has (is_confirmed n) h ≡ true → find (λ j. j.n == n) (asked h) ≡ Some i → is_on i.mode ≡ true → list_any (λ (l : Lease). l.intent.n == n) (leases h) ≡ true
made [] l n i k e on = absurd (false≢true k)
made (e ∷ h) l n i k f on =
    elim (or_cases (is_confirmed n e.what) (has (is_confirmed n) h) k) [
      | inl a ↦ made_by e.what h n i a f on
      | inr a ↦
          list_any-append (λ (x : Lease). x.intent.n == n) (lease_of e.what (confirmed_intent e.what h)) (leases h)
          ∙ or_right _ _ (made h l.0 n i a (asked_before e.what e.t h n i (allowed h e l.1) (about_le h l.0 n (has_more (is_confirmed n) (is_about n) (confirmed_about n) h a)) f) on)
    ]

on_by : (sent : ℕ) (o : Option Intent) → AllByRecursion (λ (x : Lease). is_on x.intent.mode ≡ true) (lease_by sent o)
on_by sent None = tt
on_by sent (Some i) = one (is_on i.mode) refl
  where
    one : (b : Bool) → is_on i.mode ≡ b → AllByRecursion (λ (x : Lease). is_on x.intent.mode ≡ true) (cond b (record { intent = i; sent = sent } ∷ []) [])
    one true k = (k, tt)
    one false k = tt

on_new : (w : What) (o : Option Intent) → AllByRecursion (λ (x : Lease). is_on x.intent.mode ≡ true) (lease_of w o)
on_new (Confirmed n sent) o = on_by sent o
on_new _ o = tt

all_on : (h : List Event) → AllByRecursion (λ (x : Lease). is_on x.intent.mode ≡ true) (leases h)
all_on [] = tt
all_on (e ∷ h) = all_append (λ (x : Lease). is_on x.intent.mode ≡ true) (lease_of e.what (confirmed_intent e.what h)) (leases h) (on_new e.what (confirmed_intent e.what h)) (all_on h)

module _ (h : List Event) (t n : ℕ) (l : Legal h) (le : last_time h ≤ t) where
  abbrev is_denied_lease : Lease → Bool
  is_denied_lease x = list_any (λ i. i.n == x.intent.n) (notices h)

  abbrev Had : Event → Type 0
  Had e = (q : Event → Bool) → q e ≡ true → list_any q h ≡ true

  notice_found : find (λ i. i.n == n) (notices h) ≡ cond (is_owed_notice_number h n) (find (λ i. i.n == n) (asked h)) None
  notice_found = find-filter (λ i. i.n == n) (is_owed_notice h) (is_owed_notice_number h n) (λ i k. ap (is_owed_notice_number h) (eqb-true i.n n k)) (asked h)

  -- ---- from the events

  live_told : (i : Intent) → (i.n == n) ≡ true → has_number i.n (live h t) ≡ true → member n (numbers (live h t)) ≡ true
  live_told i k leased = any-map (λ (y : Lease). y.intent.n) n (live h t) ∙ ap (λ m. has_number m (live h t)) (sym (eqb-true i.n n k)) ∙ leased

  noticed_told : has (is_confirmed n) h ≡ true → is_noticed h n ≡ true → member n (numbers (filter is_denied_lease (leases h))) ≡ true
  noticed_told confirmed k = by (is_owed_notice_number h n) refl (find (λ i. i.n == n) (asked h)) refl (sym (ap is_on_one notice_found) ∙ k)
    where
      by : (b : Bool) → is_owed_notice_number h n ≡ b → (o : Option Intent) → find (λ i. i.n == n) (asked h) ≡ o → is_on_one (cond b o None) ≡ true → member n (numbers (filter is_denied_lease (leases h))) ≡ true
      by false owed o e m = absurd (false≢true m)
      by true owed None e m = absurd (false≢true m)
      by true owed (Some i) e m =
          let denied : list_any (λ (j : Intent). j.n == n) (notices h) ≡ true = sym (some_found (λ (j : Intent). j.n == n) (notices h)) ∙ ap is_some notice_found ∙ (λ k. is_some (cond (owed k) (e k) None)) in
          any-map (λ (x : Lease). x.intent.n) n (filter is_denied_lease (leases h))
          ∙ any_filter (λ (x : Lease). x.intent.n == n) is_denied_lease (leases h)
          ∙ any_more (λ (x : Lease). x.intent.n == n) (λ x. is_denied_lease x && (x.intent.n == n))
          (λ x a. and_from _ _ (subst (λ z. list_any (λ (j : Intent). j.n == z) (notices h) ≡ true) (sym (eqb-true x.intent.n n a)) denied) a)
          (leases h) (made h l n i confirmed e m)

  told : (e : Event) → Had e → gives_lease h t n e.what ≡ true → member n (first_kept h t) ≡ true
  told e had k = by e.what refl k
    where
      by : (w : What) → e.what ≡ w → gives_lease h t n w ≡ true → member n (first_kept h t) ≡ true
      by (Asked i) same k = let a = and_parts (i.n == n) (has_number i.n (live h t)) k in member_left n (numbers (live h t)) _ (live_told i a.0 a.1)
      by (Confirmed m sent) same k =
          let a = and_parts (m == n) (is_noticed h m) k in
          member_right n (numbers (live h t)) _
          (noticed_told (had (λ d. is_confirmed n d.what) (ap (is_confirmed n) same ∙ a.0)) (subst (λ z. is_noticed h z ≡ true) (eqb-true m n a.0) a.1))
      by _ same k = absurd (false≢true k)

  -- ---- to the events

  live_tells : member n (numbers (live h t)) ≡ true → has (gives_lease h t n) h ≡ true
  live_tells k =
      let live_one : has_number n (live h t) ≡ true = sym (any-map (λ (x : Lease). x.intent.n) n (live h t)) ∙ k in
      any_then (λ x. find (λ i. i.n == x.intent.n) (asked h) ≡ Some x.intent) (λ x. x.intent.n == n) (has (gives_lease h t n) h ≡ true)
      (λ x a e.
      asked_has (gives_lease h t n) h
      ((all_find (λ (i : Intent). (q : Intent → Bool) → q i ≡ true → list_any q (asked h) ≡ true) (λ i. i.n == x.intent.n) x.intent (asked h) (each_any (asked h)) a).0
      (λ i. gives_lease h t n (Asked i)) (and_from _ _ e (ap (λ m. has_number m (live h t)) (eqb-true x.intent.n n e) ∙ live_one))))
      (live h t) (all_filter (λ x. find (λ i. i.n == x.intent.n) (asked h) ≡ Some x.intent) (λ x. is_none (lease_end h x t)) (leases h) (leases_asked h l)) live_one

  confirmed_gives : is_noticed h n ≡ true → (w : What) → is_confirmed n w ≡ true → gives_lease h t n w ≡ true
  confirmed_gives k (Confirmed m sent) a = and_from _ _ a (subst (λ z. is_noticed h z ≡ true) (sym (eqb-true m n a)) k)
  confirmed_gives k _ a = absurd (false≢true a)

  -- the notice of a lease
  is_subscription : (x : Lease) → find (λ i. i.n == n) (asked h) ≡ Some x.intent → is_on x.intent.mode ≡ true → list_any (λ (i : Intent). i.n == n) (notices h) ≡ true → is_noticed h n ≡ true
  is_subscription x e on k = ap is_on_one notice_found ∙ by (is_owed_notice_number h n) (sym (ap is_some notice_found) ∙ some_found (λ (i : Intent). i.n == n) (notices h) ∙ k)
    where
      by : (b : Bool) → is_some (cond b (find (λ i. i.n == n) (asked h)) None) ≡ true → is_on_one (cond b (find (λ i. i.n == n) (asked h)) None) ≡ true
      by true m = ap is_on_one e ∙ on
      by false m = absurd (false≢true m)

  noticed_tells : member n (numbers (filter is_denied_lease (leases h))) ≡ true → has (gives_lease h t n) h ≡ true
  noticed_tells k =
      any_then (λ x. ((has (is_confirmed x.intent.n) h ≡ true) × ((find (λ i. i.n == x.intent.n) (asked h) ≡ Some x.intent) × (is_on x.intent.mode ≡ true))) × (is_denied_lease x ≡ true)) (λ x. x.intent.n == n) (has (gives_lease h t n) h ≡ true)
      (λ x a e.
      let number : x.intent.n ≡ n = eqb-true x.intent.n n e in
      has_more (is_confirmed n) (gives_lease h t n)
      (confirmed_gives (is_subscription x (subst (λ z. find (λ i. i.n == z) (asked h) ≡ Some x.intent) number a.0.1.0) a.0.1.1 (subst (λ z. list_any (λ (i : Intent). i.n == z) (notices h) ≡ true) number a.1)))
      h (subst (λ z. has (is_confirmed z) h ≡ true) number a.0.0))
      (filter is_denied_lease (leases h))
      (all_filter_with (λ x. (has (is_confirmed x.intent.n) h ≡ true) × ((find (λ i. i.n == x.intent.n) (asked h) ≡ Some x.intent) × (is_on x.intent.mode ≡ true))) is_denied_lease (leases h)
      (both_true (λ x. has (is_confirmed x.intent.n) h ≡ true) (λ x. (find (λ i. i.n == x.intent.n) (asked h) ≡ Some x.intent) × (is_on x.intent.mode ≡ true)) (leases h) (leases_confirmed h)
      (both_true (λ x. find (λ i. i.n == x.intent.n) (asked h) ≡ Some x.intent) (λ x. is_on x.intent.mode ≡ true) (leases h) (leases_asked h l) (all_on h))))
      (sym (any-map (λ (x : Lease). x.intent.n) n (filter is_denied_lease (leases h))) ∙ k)

  first_had : has (gives_lease h t n) h ≡ member n (first_kept h t)
  first_had =
      both_ways (has (gives_lease h t n) h) (member n (first_kept h t))
      (any_then Had (λ e. gives_lease h t n e.what) (member n (first_kept h t) ≡ true) told h (each_any h))
      (λ k. elim (member_cases n (numbers (live h t)) (numbers (filter is_denied_lease (leases h))) k) [ inl a ↦ live_tells a | inr a ↦ noticed_tells a ])

  as_light : (w : What) → gives_lease h t n (light w) ≡ gives_lease h t n w
  as_light (Fetched v) = refl
  as_light (Asked i) = refl
  as_light w = refl

  no_push : (w : What) → is_any_push w ≡ true → gives_lease h t n w ≡ false
  no_push (Pushed v m how) k = refl
  no_push _ k = absurd (false≢true k)

  pub first_logged : list_any (λ e. gives_lease h t n e.what) (log_of h) ≡ member n (first_kept h t)
  first_logged = any_log (gives_lease h t n) as_light no_push h ∙ first_had
