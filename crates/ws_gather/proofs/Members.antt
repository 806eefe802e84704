-- Gathered events in another order, and those of two tests together.
use Rattle.std.proofs.Common.{◌≡◌, ℕ, ◌≤◌, Bool, true, false, cond, ◌&&◌, ◌||◌, List, [], ◌∷◌, ◌++◌, length, refl, ap, sym, ◌∙◌, subst, arith, inl, inr}
use Rattle.std.specs.Prelude.{filter, reverse, ◌==◌, Contains}
use Rattle.std.specs.List.{AllByRecursion}
use Rattle.std.specs.List.Sorted.{IsNonDecreasingBy, IsPermutation}
use Rattle.std.proofs.lemmas.Bool.Decides.{nat_tests}
use Rattle.std.proofs.lemmas.Bool.{and_from, eq-eqb, false≢true, or_cases, or_left, or_right}
use Rattle.std.proofs.lemmas.List.Elements.{All-contains, All-contains_itself, All-from_recursion, filter-append, recursion_from_All}
use Rattle.std.proofs.lemmas.List.Sorted.{All-permutation, IsPermutation-reverse, IsPermutation-sym, list_any-IsPermutation, sum_by-IsPermutation}
use Rattle.std.proofs.lemmas.List.Folds.{list_any-append}
use Rattle.std.proofs.lemmas.List.Sums.{length-filter}
use Rattle.ws_model.specs.declared.event.Event.{Event}
use Rattle.ws_model.specs.Legal.{Legal}
use Rattle.ws_laws.proofs.ListLaws.{all_append, all_filter_with, all_weaker}
use Rattle.ws_gather.proofs.Falling.{falls, falls_on, one_at, only_one}
use Rattle.ws_gather.proofs.Rising.{rises, rises_turned, same_order}
use Rattle.ws_gather.specs.Gathered.{AddsUp, AreGathered, Exchanges, has_serial, with_serial}

-- ---- in another order

count_exchanged : (s : ℕ) (xs ys : List Event) → IsPermutation xs ys → length (with_serial s ys) ≡ length (with_serial s xs)
count_exchanged s xs ys p =
    length-filter (λ e. e.serial == s) ys
    ∙ sum_by-IsPermutation (λ e. cond (e.serial == s) 1 0) xs ys p
    ∙ sym (length-filter (λ e. e.serial == s) xs)

pub exchanged : (h : List Event) (test : Event → Bool) (xs ys : List Event) → IsPermutation xs ys → AreGathered h test xs → AreGathered h test ys
exchanged h test xs ys p g =
    let P : Event → Type 0 = λ (e : Event). (test e ≡ true) × Contains h e in
    record {
      passing = recursion_from_All P ys (All-permutation P xs ys p (All-from_recursion P xs g.passing));
      whole = all_weaker (λ e. test e ≡ true → has_serial e.serial xs ≡ true) (λ e. test e ≡ true → has_serial e.serial ys ≡ true) (λ e k t. sym (list_any-IsPermutation (λ f. f.serial == e.serial) xs ys p) ∙ k t) h g.whole;
      once = λ s. subst (λ n. n ≤ 1) (sym (count_exchanged s xs ys p)) (g.once s);
    }

all_there : (test : Event → Bool) (h : List Event) → AllByRecursion (λ e. test e ≡ true → has_serial e.serial (filter test h) ≡ true) h
all_there test [] = tt
all_there test (e ∷ h) = (
  λ t. rw t (or_left _ _ (eq-eqb e.serial e.serial refl)),
  all_weaker (λ f. test f ≡ true → has_serial f.serial (filter test h) ≡ true) (λ f. test f ≡ true → has_serial f.serial (filter test (e ∷ h)) ≡ true) (λ f k t. one f.serial (test e) (k t)) h (all_there test h),
)
  where
    one : (s : ℕ) (b : Bool) → has_serial s (filter test h) ≡ true → has_serial s (cond b (e ∷ filter test h) (filter test h)) ≡ true
    one s true k = or_right _ _ k
    one s false k = k

pub filtered : (h : List Event) (test : Event → Bool) → Legal h → AreGathered h test (filter test h)
filtered h test l =
    record {
      passing = all_weaker (λ e. Contains h e × (test e ≡ true)) (λ e. (test e ≡ true) × Contains h e) (λ e k. (k.1, k.0)) (filter test h) (all_filter_with (Contains h) test h (recursion_from_All (Contains h) h (All-contains_itself h)));
      whole = all_there test h;
      once = λ s. one_at s (filter test h) (falls_on test h (falls h l));
    }

pub exchanges : Exchanges
exchanges h test events l p = exchanged h test (filter test h) events (IsPermutation-sym events (filter test h) p) (filtered h test l)

-- ---- the events of a serial

-- what is known of each gathered event of a serial
abbrev pub IsOne : List Event → (Event → Bool) → ℕ → Event → Type 0
IsOne h test s e = ((test e ≡ true) × Contains h e) × ((e.serial == s) ≡ true)

pub ones : (h : List Event) (test : Event → Bool) (events : List Event) → AreGathered h test events → (s : ℕ) → AllByRecursion (IsOne h test s) (with_serial s events)
ones h test events g s = all_filter_with (λ (e : Event). (test e ≡ true) × Contains h e) (λ e. e.serial == s) events g.passing

both_serial : (a b s : ℕ) → (a == s) ≡ true → (b == s) ≡ true → a ≡ b
both_serial a b s k l = grind (arith, nat_tests)

-- two events of the history with one serial are the same
pub same_event : (h : List Event) → Legal h → (s : ℕ) (e f : Event) → Contains h e → Contains h f → (e.serial == s) ≡ true → (f.serial == s) ≡ true → e ≡ f
same_event h l s e f c d k m =
    let P : Event → Type 0 = λ (x : Event). x.serial ≡ f.serial → x ≡ f in
    All-contains P h e (All-from_recursion P h (only_one f h (falls h l) d)) c (both_serial e.serial f.serial s k m)

none_there : (s : ℕ) (es : List Event) → has_serial s es ≡ true → with_serial s es ≡ [] → false ≡ true
none_there s [] a b = a
none_there s (x ∷ es) a b = one (x.serial == s) (none_there s es) a b
  where
    one : (c : Bool) → (has_serial s es ≡ true → with_serial s es ≡ [] → false ≡ true) → (c || has_serial s es) ≡ true → cond c (x ∷ with_serial s es) (with_serial s es) ≡ [] → false ≡ true
    one true r a b = absurd (grind arith)
    one false r a b = r a b

-- where one stands, another list that was gathered has one too
has_one : (h : List Event) (test : Event → Bool) (events : List Event) → AreGathered h test events → (s : ℕ) (e : Event) → IsOne h test s e → with_serial s events ≡ [] → false ≡ true
has_one h test events g s e k none =
    let P : Event → Type 0 = λ e. test e ≡ true → has_serial e.serial events ≡ true in
    let there : has_serial e.serial events ≡ true = All-contains P h e (All-from_recursion P h g.whole) k.0.1 k.0.0 in
    none_there s events (subst (λ n. has_serial n events ≡ true) (both_serial e.serial s s k.1 (eq-eqb s s refl)) there) none

pub same_ones : (h : List Event) (test : Event → Bool) (xs ys : List Event) → Legal h → AreGathered h test xs → AreGathered h test ys → (s : ℕ) → with_serial s xs ≡ with_serial s ys
same_ones h test xs ys l g k s = by (with_serial s xs) (with_serial s ys) (ones h test xs g s) (ones h test ys k s) (g.once s) (k.once s) (has_one h test xs g s) (has_one h test ys k s)
  where
    by : (es fs : List Event) → AllByRecursion (IsOne h test s) es → AllByRecursion (IsOne h test s) fs → length es ≤ 1 → length fs ≤ 1
        → ((e : Event) → IsOne h test s e → es ≡ [] → false ≡ true) → ((e : Event) → IsOne h test s e → fs ≡ [] → false ≡ true) → es ≡ fs
    by [] [] a b m n p q = refl
    by [] (f ∷ fs) a b m n p q = absurd (false≢true (p f b.0 refl))
    by (e ∷ es) [] a b m n p q = absurd (false≢true (q e a.0 refl))
    by (e ∷ []) (f ∷ []) a b m n p q = ap (λ x. x ∷ []) (same_event h l s e f a.0.0.1 b.0.0.1 a.0.1 b.0.1)
    by (e ∷ d ∷ es) fs a b m n p q = absurd (omega arith)
    by es (f ∷ d ∷ fs) a b m n p q = absurd (omega arith)

-- ---- in their order

pub ordered : (h : List Event) (test : Event → Bool) (events sorted : List Event) → Legal h → IsPermutation events sorted → IsNonDecreasingBy (λ (e : Event). e.serial) sorted → AreGathered h test events → sorted ≡ reverse (filter test h)
ordered h test events sorted l p r g =
    same_order sorted (reverse (filter test h)) (rises sorted r) (rises_turned (filter test h) (falls_on test h (falls h l)))
    (same_ones h test sorted (reverse (filter test h)) l (exchanged h test events sorted p g) (exchanged h test (filter test h) (reverse (filter test h)) (IsPermutation-reverse (filter test h)) (filtered h test l)))

-- ---- two tests

module _ (h : List Event) (p q : Event → Bool) (xs ys : List Event) (l : Legal h) (other : AllByRecursion (λ e. (p e && q e) ≡ false) h) (f : AreGathered h p xs) (g : AreGathered h q ys) where
  abbrev either : Event → Bool
  either e = p e || q e

  both_pass : AllByRecursion (λ e. (either e ≡ true) × Contains h e) (xs ++ ys)
  both_pass =
      let P : Event → Type 0 = λ e. (either e ≡ true) × Contains h e in
      all_append P xs ys
      (all_weaker (λ e. (p e ≡ true) × Contains h e) P (λ e k. (or_left (p e) (q e) k.0, k.1)) xs f.passing)
      (all_weaker (λ e. (q e ≡ true) × Contains h e) P (λ e k. (or_right (p e) (q e) k.0, k.1)) ys g.passing)

  found_in : (e : Event) → (p e ≡ true → has_serial e.serial xs ≡ true) → (q e ≡ true → has_serial e.serial ys ≡ true) → either e ≡ true → has_serial e.serial (xs ++ ys) ≡ true
  found_in e a b k =
      list_any-append (λ x. x.serial == e.serial) xs ys
      ∙ elim (or_cases (p e) (q e) k) [ inl t ↦ or_left _ _ (a t) | inr t ↦ or_right _ _ (b t) ]

  both_whole : AllByRecursion (λ e. either e ≡ true → has_serial e.serial (xs ++ ys) ≡ true) h
  both_whole =
      recursion_from_All (λ e. either e ≡ true → has_serial e.serial (xs ++ ys) ≡ true) h
      (λ k d m. found_in _ (All-from_recursion (λ e. p e ≡ true → has_serial e.serial xs ≡ true) h f.whole k d m) (All-from_recursion (λ e. q e ≡ true → has_serial e.serial ys ≡ true) h g.whole k d m))

  not_both : (s : ℕ) (e d : Event) → IsOne h p s e → IsOne h q s d → false ≡ true
  not_both s e d a b =
      let same : e ≡ d = same_event h l s e d a.0.1 b.0.1 a.1 b.1 in
      sym (All-contains (λ x. (p x && q x) ≡ false) h e (All-from_recursion (λ x. (p x && q x) ≡ false) h other) a.0.1) ∙ and_from (p e) (q e) a.0.0 (subst (λ x. q x ≡ true) (sym same) b.0.0)

  both_once : (s : ℕ) → length (with_serial s (xs ++ ys)) ≤ 1
  both_once s =
      rw (filter-append (λ e. e.serial == s) xs ys)
      (by (with_serial s xs) (with_serial s ys) (ones h p xs f s) (ones h q ys g s) (f.once s) (g.once s))
    where
      by : (es ds : List Event) → AllByRecursion (IsOne h p s) es → AllByRecursion (IsOne h q s) ds → length es ≤ 1 → length ds ≤ 1 → length (es ++ ds) ≤ 1
      by [] ds a b m n = n
      by (e ∷ []) [] a b m n = m
      by (e ∷ []) (d ∷ ds) a b m n = absurd (false≢true (not_both s e d a.0 b.0))
      by (e ∷ c ∷ es) ds a b m n = absurd (omega arith)

pub adds_up : AddsUp
adds_up h p q xs ys l other f g =
    record {
      passing = both_pass h p q xs ys l other f g;
      whole = both_whole h p q xs ys l other f g;
      once = both_once h p q xs ys l other f g;
    }
