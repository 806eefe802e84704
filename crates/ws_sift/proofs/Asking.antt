-- What was asked for is found by its number: it stands with its verification, its notice or its lease, or with what replaced that.
use Rattle.std.proofs.Common.{◌≡◌, ℕ, ◌≤◌, ◌<◌, Bool, true, false, cond, not, ◌&&◌, ◌||◌, List, [], ◌∷◌, ◌++◌, refl, ap, sym, ◌∙◌, arith, inl, inr}
use Rattle.std.specs.Prelude.{Option, Some, None, find, filter, is_none, is_some, ◌==◌}
use Rattle.std.specs.List.{AllByRecursion, list_any}
use Rattle.std.specs.Option.{option_map}
use Rattle.std.proofs.lemmas.Bool.{eqb-true, false≢true, ltb-true, or_cases}
use Rattle.std.proofs.lemmas.Bool.Decides.{nat_tests}
use Rattle.ws_model.specs.declared.event.Event.{Event}
use Rattle.ws_model.specs.declared.event.Intent.{Intent}
use Rattle.ws_model.specs.declared.event.What.{What}
use Rattle.ws_model.specs.declared.event.What.TheVariants.{Asked}
use Rattle.ws_model.specs.declared.lease.Lease.{Lease}
use Rattle.ws_model.specs.Intents.{asked, intents_of, is_owed_notice, is_owed_notice_number, is_pending, is_pending_number, notices, pending}
use Rattle.ws_model.specs.Keep.{first_kept, is_among, keeps, kept_leases, member, numbers}
use Rattle.ws_model.specs.Leases.{lease_end, leases, live}
use Rattle.ws_model.specs.Legal.{Legal, is_allowed, pending_of}
use Rattle.ws_model.specs.Moment.{asked_number, last_intent}
use Rattle.ws_laws.proofs.Follow.{some_found}
use Rattle.ws_laws.proofs.Known.{allowed, itself}
use Rattle.ws_laws.proofs.ListLaws.{all_append, all_filter, all_filter_with, all_find, all_from, all_weaker, any_then, find-filter}
use Rattle.ws_laws.proofs.Notices.{leases_asked}
use Rattle.ws_compaction.proofs.Replaced.{any-map, member_cases}
use Rattle.ws_tries.specs.Stands.{is_any_push}
use Rattle.ws_kept.specs.Stands.{light}
use Rattle.ws_sift.specs.Sifted.{AreReplaced, IsFoundIn, intent_in, is_kept_number, is_kept_other}

-- ---- each number is of one request

-- it is what the history has by its number
abbrev pub IsAsked : List Event → Intent → Type 0
IsAsked h i = find (λ j. j.n == i.n) (asked h) ≡ Some i

low_new : (w : What) (most : ℕ) → asked_number w ≤ most → AllByRecursion (λ (i : Intent). i.n ≤ most) (intents_of w)
low_new (Asked i) most k = (k, tt)
low_new _ most k = tt

-- its number isn't above those of the history
pub low : (h : List Event) → AllByRecursion (λ (i : Intent). i.n ≤ last_intent h) (asked h)
low [] = tt
low (e ∷ h) =
    all_append (λ (i : Intent). i.n ≤ last_intent (e ∷ h)) (intents_of e.what) (asked h)
    (low_new e.what (last_intent (e ∷ h)) (omega arith))
    (all_weaker (λ (i : Intent). i.n ≤ last_intent h) (λ i. i.n ≤ last_intent (e ∷ h)) (λ i k. omega arith) (asked h) (low h))

-- and is found still after one more event
pub still_asked : (w : What) (t : ℕ) (h : List Event) → is_allowed w t h ≡ true → (n : ℕ) → n ≤ last_intent h → find (λ j. j.n == n) (intents_of w ++ asked h) ≡ find (λ j. j.n == n) (asked h)
still_asked (Asked i) t h k n m =
    let above : last_intent h < i.n = ltb-true _ _ k in
    let other : (i.n == n) ≡ false = grind (arith, nat_tests) in
    ap (λ b. cond b (Some i) (find (λ j. j.n == n) (asked h))) other
still_asked _ t h k n m = refl

abbrev pub HasIntent : List Event → Event → Type 0
HasIntent h e = (i : Intent) → e.what ≡ Asked i → IsAsked h i

abbrev IsLow : ℕ → Event → Type 0
IsLow most e = (i : Intent) → e.what ≡ Asked i → i.n ≤ most

all_low : (h : List Event) → AllByRecursion (IsLow (last_intent h)) h
all_low [] = tt
all_low (e ∷ h) = (
  (λ i k. let m : asked_number e.what ≡ i.n = ap asked_number k in omega arith),
  all_weaker (IsLow (last_intent h)) (IsLow (last_intent (e ∷ h))) (λ d f i k. let m : i.n ≤ last_intent h = f i k in omega arith) h (all_low h),
)

new_asked : (e : Event) (h : List Event) → HasIntent (e ∷ h) e
new_asked e h i k =
    ap (λ w. find (λ j. j.n == i.n) (intents_of w ++ asked h)) k
    ∙ ap (λ b. cond b (Some i) (find (λ j. j.n == i.n) (asked h))) (itself i.n)

both : (es : List Event) (P Q R : Event → Type 0) → ((e : Event) → P e → Q e → R e) → AllByRecursion P es → AllByRecursion Q es → AllByRecursion R es
both [] P Q R f a b = tt
both (e ∷ es) P Q R f a b = (f e a.0 b.0, both es P Q R f a.1 b.1)

pub have_intents : (h : List Event) → Legal h → AllByRecursion (HasIntent h) h
have_intents [] l = tt
have_intents (e ∷ h) l = (
  new_asked e h,
  both h (IsLow (last_intent h)) (HasIntent h) (HasIntent (e ∷ h)) (λ d m f i k. still_asked e.what e.t h (allowed h e l.1) i.n (m i k) ∙ f i k) (all_low h) (have_intents h l.0),
)

-- ---- where it stands

kept_some : (b : Bool) (o : Option Intent) (i : Intent) → Some i ≡ cond b o None → Some i ≡ o
kept_some true o i k = k
kept_some false o i k = absurd (cc)

module _ (h : List Event) (n : ℕ) where
  abbrev by_number : Option Intent
  by_number = find (λ j. j.n == n) (asked h)

  pub pending_is : (i : Intent) → Some i ≡ pending_of h n → Some i ≡ by_number
  pending_is i k = kept_some (is_pending_number h n) by_number i (k ∙ find-filter (λ j. j.n == n) (is_pending h) (is_pending_number h n) (λ j e. ap (is_pending_number h) (eqb-true j.n n e)) (asked h))

  pub notice_is : (i : Intent) → Some i ≡ find (λ j. j.n == n) (notices h) → Some i ≡ by_number
  notice_is i k = kept_some (is_owed_notice_number h n) by_number i (k ∙ find-filter (λ j. j.n == n) (is_owed_notice h) (is_owed_notice_number h n) (λ j e. ap (is_owed_notice_number h) (eqb-true j.n n e)) (asked h))

  module _ (t : ℕ) (l : Legal h) where
    abbrev of_lease : Option Lease
    of_lease = find (λ (x : Lease). x.intent.n == n) (live h t)

    pub lease_is : (i : Intent) → Some i ≡ option_map (λ (x : Lease). x.intent) of_lease → Some i ≡ by_number
    lease_is i k = by of_lease refl k
      where
        by : (o : Option Lease) → find (λ (x : Lease). x.intent.n == n) (live h t) ≡ o → Some i ≡ option_map (λ (x : Lease). x.intent) o → Some i ≡ find (λ j. j.n == n) (asked h)
        by None e k = absurd (cc)
        by (Some x) e k =
            let a = all_find (λ (x : Lease). find (λ j. j.n == x.intent.n) (asked h) ≡ Some x.intent) (λ x. x.intent.n == n) x (live h t)
            (all_filter (λ (x : Lease). find (λ j. j.n == x.intent.n) (asked h) ≡ Some x.intent) (λ x. is_none (lease_end h x t)) (leases h) (leases_asked h l)) e in
            k ∙ sym a.0 ∙ ap (λ m. find (λ j. j.n == m) (asked h)) (eqb-true x.intent.n n a.1)

    -- where it stands nowhere else, it is a kept lease that was replaced
    pub last_is :
        (replaced : ℕ → Option Intent) → AreReplaced h t replaced → is_kept_number h t n ≡ true
        → None ≡ pending_of h n → None ≡ find (λ j. j.n == n) (notices h) → None ≡ option_map (λ (x : Lease). x.intent) of_lease → replaced n ≡ by_number
    last_is replaced r kept p d s =
        elim (or_cases (is_among (pending h) n || is_among (notices h) n) (member n (kept_leases h t)) kept) [
          | inl a ↦ elim (or_cases (is_among (pending h) n) (is_among (notices h) n) a) [ inl b ↦ absurd (missing (pending h) b p) | inr b ↦ absurd (missing (notices h) b d) ]
          | inr a ↦ elim (or_cases (member n (first_kept h t)) (is_some (replaced n)) (r.all n a)) [ inl b ↦ absurd (not_first b) | inr b ↦ held (replaced n) refl b ]
        ]
      where
        missing : (is : List Intent) → list_any (λ (j : Intent). j.n == n) is ≡ true → None ≡ find (λ (j : Intent). j.n == n) is → ⊥
        missing is b k = false≢true (ap is_some k ∙ some_found (λ (j : Intent). j.n == n) is ∙ b)

        no_lease : (o : Option Lease) → None ≡ option_map (λ (x : Lease). x.intent) o → is_some o ≡ false
        no_lease None k = refl
        no_lease (Some x) k = absurd (cc)

        not_live : member n (numbers (live h t)) ≡ true → ⊥
        not_live b =
            false≢true
            (sym (no_lease (find (λ (x : Lease). x.intent.n == n) (live h t)) s)
            ∙ some_found (λ (x : Lease). x.intent.n == n) (live h t)
            ∙ sym (any-map (λ (x : Lease). x.intent.n) n (live h t))
            ∙ b)

        not_noticed : member n (numbers (filter (λ (x : Lease). list_any (λ i. i.n == x.intent.n) (notices h)) (leases h))) ≡ true → ⊥
        not_noticed b =
            any_then (λ (x : Lease). Unit {0} × (list_any (λ i. i.n == x.intent.n) (notices h) ≡ true)) (λ x. x.intent.n == n) ⊥
            (λ x a e. missing (notices h) (ap (λ m. list_any (λ (j : Intent). j.n == m) (notices h)) (sym (eqb-true x.intent.n n e)) ∙ a.1) d)
            (filter (λ (x : Lease). list_any (λ i. i.n == x.intent.n) (notices h)) (leases h))
            (all_filter_with (λ (x : Lease). Unit {0}) (λ x. list_any (λ i. i.n == x.intent.n) (notices h)) (leases h) (all_from (λ (x : Lease). Unit {0}) (λ x. tt) (leases h)))
            (sym (any-map (λ (x : Lease). x.intent.n) n (filter (λ (x : Lease). list_any (λ i. i.n == x.intent.n) (notices h)) (leases h))) ∙ b)

        not_first : member n (first_kept h t) ≡ true → ⊥
        not_first b = elim (member_cases n (numbers (live h t)) (numbers (filter (λ (x : Lease). list_any (λ i. i.n == x.intent.n) (notices h)) (leases h))) b) [ inl c ↦ not_live c | inr c ↦ not_noticed c ]

        held : (o : Option Intent) → replaced n ≡ o → is_some o ≡ true → replaced n ≡ find (λ j. j.n == n) (asked h)
        held None e b = absurd (false≢true b)
        held (Some i) e b = e ∙ sym (r.found n i e)

-- the event of the log has what was asked for again
pub asked_is :
    (h : List Event) (t : ℕ) (e : Event) (intent : Intent) (o : Option Intent) → IsFoundIn h e → Asked intent ≡ light e.what → is_kept_other h t e ≡ true
    → (is_kept_number h t intent.n ≡ true → o ≡ find (λ j. j.n == intent.n) (asked h)) → o ≡ intent_in e.what
asked_is h t e intent o found like kept f = by e.what refl like
  where
    by : (w : What) → e.what ≡ w → Asked intent ≡ light w → o ≡ intent_in w
    by (Asked i) k m =
        let n : intent.n ≡ i.n = ap asked_number m in
        f (ap (is_kept_number h t) n ∙ sym (ap (λ w. not (is_any_push w) && keeps h t e w) k) ∙ kept) ∙ ap (λ x. find (λ j. j.n == x) (asked h)) n ∙ found.intent i k
    by _ k m = absurd (cc)

pub light_asked : (w : What) → intent_in (light w) ≡ None → None ≡ intent_in w
light_asked (Asked i) k = absurd (cc)
light_asked _ k = refl
