-- Which intents are denied, and how often.
use Rattle.std.proofs.Common.{◌≡◌, ℕ, ◌≤◌, ◌<◌, Bool, true, false, cond, not, ◌&&◌, List, [], ◌∷◌, refl, ap, sym, ◌∙◌, subst, arith, inl, inr, ◌⊎◌}
use Rattle.std.specs.Prelude.{nat_lt, is_none, is_some, Option, Some, None, find, ◌==◌}
use Rattle.std.specs.List.{AllByRecursion, list_any}
use Rattle.std.proofs.lemmas.Bool.Decides.{nat_tests}
use Rattle.std.proofs.lemmas.Bool.{or_left, or_right, or_cases, or_from, and_parts, eqb-true, false≢true, false_from_ne_true, not-true}
use Rattle.ws_model.specs.declared.event.What.TheVariants.{Confirmed, Barred, Noticed, Revoked}
use Rattle.ws_model.specs.declared.event.Event.{Event}
use Rattle.ws_model.specs.declared.event.Intent.{Intent}
use Rattle.ws_model.specs.declared.event.What.{What}
use Rattle.ws_model.specs.declared.lease.Lease.{Lease}
use Rattle.ws_laws.proofs.Advance.{live_later}
use Rattle.ws_laws.proofs.Known.{IsOfConfirmed, about_le, allowed, in_time, is_about, leases_confirmed}
use Rattle.ws_laws.proofs.ListLaws.{all_append, all_filter, all_filter_with, all_find, all_from, all_weaker, any_then}
use Rattle.ws_laws.proofs.Step.{IsFresh, find_pending, has_less, live_step, new_fresh}
use Rattle.ws_laws.specs.Steps.{lives_on}
use Rattle.ws_model.specs.History.{has}
use Rattle.ws_model.specs.Intents.{asked, is_denied, is_noticed, is_owed_notice, is_pending_number, is_settled, notices}
use Rattle.ws_model.specs.Leases.{confirmed_intent, expiry, is_confirmed, lease_end, lease_of, leases, live}
use Rattle.ws_model.specs.Legal.{Legal, accepts, is_allowed, is_confirmable, is_on_one, pending_of}
use Rattle.ws_model.specs.Moment.{last_intent, last_time}

abbrev pub is_barred : ℕ → What → Bool
is_barred n (Barred m reason) = m == n
is_barred n _ = false

abbrev pub is_revoked : ℕ → What → Bool
is_revoked n (Revoked m reason) = m == n
is_revoked n _ = false

denied_parts : (n : ℕ) (w : What) → is_denied n w ≡ true → (is_barred n w ≡ true) ⊎ (is_revoked n w ≡ true)
denied_parts n (Barred m reason) k = inl k
denied_parts n (Revoked m reason) k = inr k
denied_parts n _ k = absurd (false≢true k)

-- a denied number was barred or revoked
denied_by : (h : List Event) (n : ℕ) → has (is_denied n) h ≡ true → (has (is_barred n) h ≡ true) ⊎ (has (is_revoked n) h ≡ true)
denied_by [] n k = absurd (false≢true k)
denied_by (e ∷ h) n k = elim (or_cases (is_denied n e.what) (has (is_denied n) h) k) [
  | inl a ↦ elim (denied_parts n e.what a) [ inl b ↦ inl (or_left _ _ b) | inr b ↦ inr (or_left _ _ b) ]
  | inr a ↦ elim (denied_by h n a) [ inl b ↦ inl (or_right _ _ b) | inr b ↦ inr (or_right _ _ b) ]
]

-- ---- what is pending isn't settled

named_at : (f : Option Intent → Bool) → f None ≡ false → (b : Bool) (o : Option Intent) → f (cond b o None) ≡ true → b ≡ true
named_at f z true o k = refl
named_at f z false o k = absurd (false≢true (sym z ∙ k))

-- a test of the pending intent of a number passes only where there is one
pub pending_named : (f : Option Intent → Bool) → f None ≡ false → (h : List Event) (n : ℕ) → f (pending_of h n) ≡ true → is_pending_number h n ≡ true
pending_named f z h n k = named_at f z (is_pending_number h n) (find (λ i. i.n == n) (asked h)) (ap f (sym (find_pending h n)) ∙ k)

pub unsettled : (h : List Event) (n : ℕ) → is_pending_number h n ≡ true → has (is_settled n) h ≡ false
unsettled h n k = not-true _ (and_parts (not (has (is_settled n) h)) _ k).0

barred_settled : (n : ℕ) (w : What) → is_barred n w ≡ true → is_settled n w ≡ true
barred_settled n (Barred m reason) k = k
barred_settled n _ k = absurd (false≢true k)

confirmed_settled : (n : ℕ) (w : What) → is_confirmed n w ≡ true → is_settled n w ≡ true
confirmed_settled n (Confirmed m sent) k = k
confirmed_settled n _ k = absurd (false≢true k)

pub not_barred : (h : List Event) (n : ℕ) → has (is_settled n) h ≡ false → has (is_barred n) h ≡ false
not_barred h n k = has_less (is_barred n) (is_settled n) (barred_settled n) h k

pub not_confirmed : (h : List Event) (n : ℕ) → has (is_settled n) h ≡ false → has (is_confirmed n) h ≡ false
not_confirmed h n k = has_less (is_confirmed n) (is_settled n) (confirmed_settled n) h k

-- ---- a revoked lease was confirmed

live_confirmed : (h : List Event) (t : ℕ) → AllByRecursion (IsOfConfirmed h) (live h t)
live_confirmed h t = all_filter (IsOfConfirmed h) (λ l. is_none (lease_end h l t)) (leases h) (leases_confirmed h)

pub live_number_confirmed : (h : List Event) (t n : ℕ) → list_any (λ (l : Lease). l.intent.n == n) (live h t) ≡ true → has (is_confirmed n) h ≡ true
live_number_confirmed h t n k =
    any_then (IsOfConfirmed h) (λ l. l.intent.n == n) (has (is_confirmed n) h ≡ true)
    (λ l c e. subst (λ m. has (is_confirmed m) h ≡ true) (eqb-true _ _ e) c) (live h t) (live_confirmed h t) k

revoked_one : (w : What) (t : ℕ) (h : List Event) (n : ℕ) → is_allowed w t h ≡ true → is_revoked n w ≡ true → has (is_confirmed n) h ≡ true
revoked_one (Revoked m reason) t h n ok k = subst (λ x. has (is_confirmed x) h ≡ true) (eqb-true m n k) (live_number_confirmed h t m ok)
revoked_one _ t h n ok k = absurd (false≢true k)

pub revoked_confirmed : (h : List Event) → Legal h → (n : ℕ) → has (is_revoked n) h ≡ true → has (is_confirmed n) h ≡ true
revoked_confirmed [] l n k = absurd (false≢true k)
revoked_confirmed (e ∷ h) l n k = elim (or_cases (is_revoked n e.what) (has (is_revoked n) h) k) [
  | inl a ↦ or_right _ _ (revoked_one e.what e.t h n (allowed h e l.1) a)
  | inr a ↦ or_right _ _ (revoked_confirmed h l.0 n a)
]

-- ---- an intent is confirmed or barred, and not both

confirms_pending : (w : What) (t : ℕ) (h : List Event) (n : ℕ) → is_allowed w t h ≡ true → is_confirmed n w ≡ true → is_pending_number h n ≡ true
confirms_pending (Confirmed m sent) t h n ok k = subst (λ x. is_pending_number h x ≡ true) (eqb-true m n k) (pending_named (is_confirmable h sent t) refl h m ok)
confirms_pending _ t h n ok k = absurd (false≢true k)

bars_pending : (w : What) (t : ℕ) (h : List Event) (n : ℕ) → is_allowed w t h ≡ true → is_barred n w ≡ true → is_pending_number h n ≡ true
bars_pending (Barred m reason) t h n ok k = subst (λ x. is_pending_number h x ≡ true) (eqb-true m n k) (pending_named is_on_one refl h m ok)
bars_pending _ t h n ok k = absurd (false≢true k)

not_at_once : (w : What) (n : ℕ) → is_confirmed n w ≡ true → is_barred n w ≡ true → ⊥
not_at_once (Confirmed m sent) n a b = false≢true b
not_at_once _ n a b = false≢true a

pub not_both : (h : List Event) → Legal h → (n : ℕ) → has (is_confirmed n) h ≡ true → has (is_barred n) h ≡ true → ⊥
not_both [] l n c b = false≢true c
not_both (e ∷ h) l n c b = elim (or_cases (is_confirmed n e.what) (has (is_confirmed n) h) c) [
  | inl now ↦ elim (or_cases (is_barred n e.what) (has (is_barred n) h) b) [
    | inl also ↦ not_at_once e.what n now also
    | inr before ↦ false≢true (sym (not_barred h n (unsettled h n (confirms_pending e.what e.t h n (allowed h e l.1) now))) ∙ before)
  ]
  | inr old ↦ elim (or_cases (is_barred n e.what) (has (is_barred n) h) b) [
    | inl now ↦ false≢true (sym (not_confirmed h n (unsettled h n (bars_pending e.what e.t h n (allowed h e l.1) now))) ∙ old)
    | inr before ↦ not_both h l.0 n old before
  ]
]

-- ---- a revoked lease isn't live

abbrev IsOther : ℕ → Lease → Type 0
IsOther n l = (l.intent.n == n) ≡ false

fresh_others : (e : Event) (h : List Event) (n : ℕ) → accepts h e ≡ true → has (is_confirmed n) h ≡ true → AllByRecursion (IsOther n) (lease_of e.what (confirmed_intent e.what h))
fresh_others e h n k c =
    all_weaker (IsFresh e h) (IsOther n)
    (λ l f. false_from_ne_true _ (λ r. false≢true (sym f.unconfirmed ∙ ap (λ m. has (is_confirmed m) h) (eqb-true l.intent.n n r) ∙ c)))
    _ (new_fresh e.what e.serial e.t h (allowed h e k))

outlives : (m n : ℕ) (l : Lease) (o : Option Intent) → (m == n) ≡ true → lives_on (Revoked m []) o l ≡ true → IsOther n l
outlives m n l o e k = grind (arith, nat_tests)

-- a lease that an event revokes doesn't live on
left_alone : (w : What) (n : ℕ) (o : Option Intent) (l : Lease) → is_revoked n w ≡ true → lives_on w o l ≡ true → IsOther n l
left_alone (Revoked m reason) n o l e k = outlives m n l o e k
left_alone _ n o l e k = absurd (false≢true e)

no_new_lease : (w : What) (n : ℕ) (o : Option Intent) → is_revoked n w ≡ true → lease_of w o ≡ []
no_new_lease (Revoked m reason) n o e = refl
no_new_lease _ n o e = absurd (false≢true e)

gone_at_once : (e : Event) (h : List Event) (n : ℕ) → accepts h e ≡ true → is_revoked n e.what ≡ true → AllByRecursion (IsOther n) (live (e ∷ h) e.t)
gone_at_once e h n k r =
    let o : Option Intent = confirmed_intent e.what h in
    subst (AllByRecursion (IsOther n)) (sym (live_step e h k))
    (all_append (IsOther n) (lease_of e.what o) _
    (subst (AllByRecursion (IsOther n)) (sym (no_new_lease e.what n o r)) tt)
    (all_weaker (λ (l : Lease). Unit {0} × (lives_on e.what o l ≡ true)) (IsOther n) (λ l p. left_alone e.what n o l r p.1) _
    (all_filter_with (λ (l : Lease). Unit {0}) (lives_on e.what o) (live h e.t) (all_from (λ (l : Lease). Unit {0}) (λ l. tt) (live h e.t)))))

gone_before : (e : Event) (h : List Event) (n : ℕ) → accepts h e ≡ true → has (is_confirmed n) h ≡ true → AllByRecursion (IsOther n) (live h e.t) → AllByRecursion (IsOther n) (live (e ∷ h) e.t)
gone_before e h n k c a =
    let o : Option Intent = confirmed_intent e.what h in
    subst (AllByRecursion (IsOther n)) (sym (live_step e h k))
    (all_append (IsOther n) (lease_of e.what o) _ (fresh_others e h n k c) (all_filter (IsOther n) (lives_on e.what o) (live h e.t) a))

pub revoked_gone : (h : List Event) → Legal h → (t : ℕ) → last_time h ≤ t → (n : ℕ) → has (is_revoked n) h ≡ true → AllByRecursion (IsOther n) (live h t)
revoked_gone [] l t le n k = absurd (false≢true k)
revoked_gone (e ∷ h) l t le n k =
    let before : last_time h ≤ e.t = in_time h e l.1 in
    subst (AllByRecursion (IsOther n)) (sym (live_later (e ∷ h) e.t t (omega arith)))
    (all_filter (IsOther n) (λ x. nat_lt t (expiry x)) (live (e ∷ h) e.t)
    (elim (or_cases (is_revoked n e.what) (has (is_revoked n) h) k) [
      | inl now ↦ gone_at_once e h n l.1 now
      | inr old ↦ gone_before e h n l.1 (revoked_confirmed h l.0 n old) (revoked_gone h l.0 e.t before n old)
    ]))

none_numbered : (n : ℕ) (ls : List Lease) → AllByRecursion (IsOther n) ls → list_any (λ (l : Lease). l.intent.n == n) ls ≡ false
none_numbered n [] a = refl
none_numbered n (l ∷ ls) a = or_from _ _ a.0 (none_numbered n ls a.1)

-- ---- what is newly denied wasn't denied before

pub barred_undenied : (h : List Event) → Legal h → (n : ℕ) → is_pending_number h n ≡ true → has (is_denied n) h ≡ false
barred_undenied h l n k = false_from_ne_true _ (λ y. elim (denied_by h n y) [
  | inl b ↦ false≢true (sym (not_barred h n (unsettled h n k)) ∙ b)
  | inr r ↦ false≢true (sym (not_confirmed h n (unsettled h n k)) ∙ revoked_confirmed h l n r)
])

pub revoked_undenied : (h : List Event) → Legal h → (t : ℕ) → last_time h ≤ t → (n : ℕ) → list_any (λ (l : Lease). l.intent.n == n) (live h t) ≡ true → has (is_denied n) h ≡ false
revoked_undenied h l t le n k = false_from_ne_true _ (λ y. elim (denied_by h n y) [
  | inl b ↦ not_both h l n (live_number_confirmed h t n k) b
  | inr r ↦ false≢true (sym (none_numbered n (live h t) (revoked_gone h l t le n r)) ∙ k)
])

-- ---- what was noticed was denied

noticed_one : (w : What) (t : ℕ) (h : List Event) (n : ℕ) (b : Bool) → is_allowed w t h ≡ true → is_noticed n b w ≡ true → has (is_denied n) h ≡ true
noticed_one (Noticed m heard) t h n b ok k =
    found (find (λ i. i.n == m) (notices h)) refl ok
  where
    same : m ≡ n
    same = eqb-true m n (and_parts (m == n) (cond b heard (not heard)) k).0

    found : (o : Option Intent) → find (λ i. i.n == m) (notices h) ≡ o → is_some o ≡ true → has (is_denied n) h ≡ true
    found None e s = absurd (false≢true s)
    found (Some i) e s =
        let q = all_find (λ j. is_owed_notice h j ≡ true) (λ j. j.n == m) i (notices h)
        (all_weaker (λ (j : Intent). Unit {0} × (is_owed_notice h j ≡ true)) (λ j. is_owed_notice h j ≡ true) (λ j p. p.1) (notices h)
        (all_filter_with (λ (j : Intent). Unit {0}) (is_owed_notice h) (asked h) (all_from (λ (j : Intent). Unit {0}) (λ j. tt) (asked h)))) e in
        let d = and_parts (has (is_denied i.n) h) (not (has (is_noticed i.n true) h)) (and_parts (has (is_denied i.n) h && not (has (is_noticed i.n true) h)) _ q.0).0 in
        subst (λ x. has (is_denied x) h ≡ true) (eqb-true i.n m q.1 ∙ same) d.0
noticed_one _ t h n b ok k = absurd (false≢true k)

noticed_denied : (h : List Event) → Legal h → (n : ℕ) (b : Bool) → has (is_noticed n b) h ≡ true → has (is_denied n) h ≡ true
noticed_denied [] l n b k = absurd (false≢true k)
noticed_denied (e ∷ h) l n b k = elim (or_cases (is_noticed n b e.what) (has (is_noticed n b) h) k) [
  | inl a ↦ or_right _ _ (noticed_one e.what e.t h n b (allowed h e l.1) a)
  | inr a ↦ or_right _ _ (noticed_denied h l.0 n b a)
]

pub not_noticed : (h : List Event) → Legal h → (n : ℕ) (b : Bool) → has (is_denied n) h ≡ false → has (is_noticed n b) h ≡ false
not_noticed h l n b k = false_from_ne_true _ (λ y. false≢true (sym k ∙ noticed_denied h l n b y))

-- ---- the numbers of denied intents were asked

barred_about : (n : ℕ) (w : What) → is_barred n w ≡ true → is_about n w ≡ true
barred_about n (Barred m reason) k = k
barred_about n _ k = absurd (false≢true k)

confirmed_about : (n : ℕ) (w : What) → is_confirmed n w ≡ true → is_about n w ≡ true
confirmed_about n (Confirmed m sent) k = k
confirmed_about n _ k = absurd (false≢true k)

has_more : (p q : What → Bool) → ((w : What) → p w ≡ true → q w ≡ true) → (h : List Event) → has p h ≡ true → has q h ≡ true
has_more p q f [] k = absurd (false≢true k)
has_more p q f (e ∷ h) k = elim (or_cases (p e.what) (has p h) k) [ inl a ↦ or_left _ _ (f e.what a) | inr a ↦ or_right _ _ (has_more p q f h a) ]

denied_le : (h : List Event) → Legal h → (n : ℕ) → has (is_denied n) h ≡ true → n ≤ last_intent h
denied_le h l n k = elim (denied_by h n k) [
  | inl b ↦ about_le h l n (has_more (is_barred n) (is_about n) (barred_about n) h b)
  | inr r ↦ about_le h l n (has_more (is_confirmed n) (is_about n) (confirmed_about n) h (revoked_confirmed h l n r))
]

pub new_undenied : (h : List Event) → Legal h → (n : ℕ) → last_intent h < n → has (is_denied n) h ≡ false
new_undenied h l n k = false_from_ne_true _ (λ y. let b : n ≤ last_intent h = denied_le h l n y in absurd (omega arith))
