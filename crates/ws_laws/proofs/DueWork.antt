-- What is due is licensed.
use Rattle.std.proofs.Common.{◌≡◌, ℕ, Bool, true, false, cond, not, ◌&&◌, ◌||◌, List, [], ◌∷◌, ◌++◌, refl, ap, sym, ◌∙◌, arith, inl, inr}
use Rattle.std.specs.Prelude.{Some, filter, find, nat_le, is_some, ◌==◌}
use Rattle.std.specs.List.{list_any}
use Rattle.std.proofs.lemmas.Bool.Decides.{nat_tests}
use Rattle.std.proofs.lemmas.Bool.{or_cases, or_from, and_parts, false≢true, false_from_ne_true, eqb-true}
use Rattle.ws_model.specs.declared.work.Work.{Work}
use Rattle.ws_model.specs.declared.work.Work.TheVariants.{Verify, Notice, Fetch, Push}
use Rattle.ws_laws.proofs.Ended.{IsToldPair, both_true, is_numbered, pairs_told}
use Rattle.ws_laws.proofs.Follow.{any_map, any_of_filter, some_found}
use Rattle.ws_laws.proofs.ListLaws.{all_filter_with, any_then}
use Rattle.ws_laws.proofs.Paired.{owed_lives, pairs_only}
use Rattle.ws_laws.specs.Fates.{DueIsLicensed, IsLicensed, OnlyPairsDue}
use Rattle.ws_model.specs.Due.{by_next, by_number, by_topic, due, due_fetches, due_notices, due_pairs, due_pushes, due_verifications, in_order, is_behind, is_out, place, same_work}
use Rattle.ws_model.specs.Fate.{Pair, fate, is_owed, next}
use Rattle.ws_model.specs.Intents.{is_first, notices, pending}
use Rattle.ws_model.specs.Leases.{live}
use Rattle.ws_model.specs.Moment.{serial}
use Rattle.ws_model.specs.Pairs.{owed, pairs}
use Rattle.ws_model.specs.Verdict.{pair_of}
use Rattle.ws_model.specs.Versions.{fetches}
use Rattle.ws_model.specs.declared.event.Event.{Event}

any_append : {X : Type 0} (p : X → Bool) (xs ys : List X) → list_any p xs ≡ false → list_any p (xs ++ ys) ≡ true → list_any p ys ≡ true
any_append p [] ys e k = k
any_append p (x ∷ xs) ys e k = elim (or_cases (p x) (list_any p (xs ++ ys)) k) [
  | inl a ↦ absurd (false≢true (sym (first (p x) (list_any p xs) e) ∙ a))
  | inr a ↦ any_append p xs ys (second (p x) (list_any p xs) e) a
]
  where
    first : (b c : Bool) → (b || c) ≡ false → b ≡ false
    first true c e = absurd (false≢true (sym e))
    first false c e = refl

    second : (b c : Bool) → (b || c) ≡ false → c ≡ false
    second true c e = absurd (false≢true (sym e))
    second false c e = e

none_like : {X : Type 0} (p : X → Bool) → ((x : X) → p x ≡ false) → (xs : List X) → list_any p xs ≡ false
none_like p f [] = refl
none_like p f (x ∷ xs) = or_from _ _ (f x) (none_like p f xs)

-- ---- putting in order neither adds nor takes

swapped_or : (a b c : Bool) → (a || (b || c)) ≡ (b || (a || c))
swapped_or true true c = refl
swapped_or true false c = refl
swapped_or false b c = refl

any_place : {X : Type 0} (p : X → Bool) (before : X → X → Bool) (x : X) (ys : List X) → list_any p (place before x ys) ≡ (p x || list_any p ys)
any_place p before x [] = refl
any_place p before x (y ∷ ys) = one (before x y) (any_place p before x ys)
  where
    one : (b : Bool) → list_any p (place before x ys) ≡ (p x || list_any p ys) → list_any p (cond b (x ∷ y ∷ ys) (y ∷ place before x ys)) ≡ (p x || (p y || list_any p ys))
    one true r = refl
    one false r = ap (λ b. p y || b) r ∙ swapped_or (p y) (p x) (list_any p ys)

any_in_order : {X : Type 0} (p : X → Bool) (before : X → X → Bool) (xs : List X) → list_any p (in_order before xs) ≡ list_any p xs
any_in_order p before [] = refl
any_in_order p before (x ∷ xs) = any_place p before x (in_order before xs) ∙ ap (λ b. p x || b) (any_in_order p before xs)

-- ---- a due push is of an owed pair

abbrev is_of_numbers : ℕ → ℕ → Pair → Bool
is_of_numbers v n p = (v == p.version.ver) && (n == p.lease.intent.n)

due_owed : (h : List Event) (t : ℕ) (out : List Work) (v n : ℕ) → list_any (same_work (Push v n)) (due h t out) ≡ true → list_any (is_of_numbers v n) (owed h t) ≡ true
due_owed h t out v n k =
    let all = any_of_filter (same_work (Push v n)) (λ w. not (is_out out w)) (due_verifications h ++ due_notices h ++ due_fetches h ++ due_pushes h t) k in
    let pushes =
    any_append (same_work (Push v n)) (due_verifications h ++ due_notices h ++ due_fetches h) (due_pushes h t)
    (none_before (due_verifications h ++ due_notices h) (due_fetches h)
    (none_before (due_verifications h) (due_notices h)
    (any_map (same_work (Push v n)) (λ i. Verify i.n) (in_order by_number (filter (is_first h) (pending h))) ∙ none_like (λ i. false) (λ i. refl) (in_order by_number (filter (is_first h) (pending h))))
    (any_map (same_work (Push v n)) (λ i. Notice i.n) (in_order by_number (notices h)) ∙ none_like (λ i. false) (λ i. refl) (in_order by_number (notices h))))
    (any_map (same_work (Push v n)) (λ p. Fetch p.topic (serial h)) (in_order by_topic (fetches h)) ∙ none_like (λ p. false) (λ p. refl) (in_order by_topic (fetches h))))
    all in
    any_of_filter (is_of_numbers v n) (λ p. nat_le (next h p) t && not (is_behind (owed h t) p)) (owed h t)
    (sym (any_in_order (is_of_numbers v n) (by_next h) (due_pairs h t))
    ∙ sym (any_map (same_work (Push v n)) (λ p. Push p.version.ver p.lease.intent.n) (in_order (by_next h) (due_pairs h t)))
    ∙ pushes)
  where
    none_before : (xs ys : List Work) → list_any (same_work (Push v n)) xs ≡ false → list_any (same_work (Push v n)) ys ≡ false → list_any (same_work (Push v n)) (xs ++ ys) ≡ false
    none_before [] ys a b = b
    none_before (x ∷ xs) ys a b = or_from _ _ (first (same_work (Push v n) x) (list_any (same_work (Push v n)) xs) a) (none_before xs ys (second (same_work (Push v n) x) (list_any (same_work (Push v n)) xs) a) b)
      where
        first : (b c : Bool) → (b || c) ≡ false → b ≡ false
        first true c e = absurd (false≢true (sym e))
        first false c e = refl

        second : (b c : Bool) → (b || c) ≡ false → c ≡ false
        second true c e = absurd (false≢true (sym e))
        second false c e = e

pub due_is_licensed : DueIsLicensed
due_is_licensed h t out v n l k =
    any_then (λ (p : Pair). ((pair_of h p.version.ver p.lease.intent.n ≡ Some p) × IsToldPair h p) × (is_owed (fate h p t) ≡ true)) (is_of_numbers v n) (IsLicensed h t v n)
    (λ p a e.
    let q = and_parts (v == p.version.ver) (n == p.lease.intent.n) e in
    let ver : v ≡ p.version.ver = eqb-true v p.version.ver q.0 in
    let number : n ≡ p.lease.intent.n = eqb-true n p.lease.intent.n q.1 in
    record {
      licensed = p;
      paired = (λ i. pair_of h (ver i) (number i)) ∙ a.0.0;
      still_owed = a.1;
      lease_lives = ap (λ m. find (is_numbered m) (live h t)) number ∙ owed_lives h t p a.0.1 a.1;
    })
    (owed h t)
    (all_filter_with (λ (p : Pair). (pair_of h p.version.ver p.lease.intent.n ≡ Some p) × IsToldPair h p) (λ p. is_owed (fate h p t)) (pairs h)
    (both_true (λ (p : Pair). pair_of h p.version.ver p.lease.intent.n ≡ Some p) (IsToldPair h) (pairs h) (pairs_only h l) (pairs_told h l)))
    (due_owed h t out v n k)

turned_test : (a b c d : ℕ) → ((a == b) && (c == d)) ≡ ((b == a) && (d == c))
turned_test a b c d = grind (arith, nat_tests)

any_turned : (v n : ℕ) (ps : List Pair) → list_any (is_of_numbers v n) ps ≡ list_any (λ (p : Pair). (p.version.ver == v) && (p.lease.intent.n == n)) ps
any_turned v n [] = refl
any_turned v n (p ∷ ps) = λ i. turned_test v p.version.ver n p.lease.intent.n i || any_turned v n ps i

pub only_pairs_due : OnlyPairsDue
only_pairs_due h t out v n none =
    false_from_ne_true _ (λ y.
    let here = any_of_filter (is_of_numbers v n) (λ p. is_owed (fate h p t)) (pairs h) (due_owed h t out v n y) in
    false≢true (ap is_some (sym none) ∙ some_found (λ (p : Pair). (p.version.ver == v) && (p.lease.intent.n == n)) (pairs h) ∙ sym (any_turned v n (pairs h)) ∙ here))
