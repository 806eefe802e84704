-- The versions that are open for a lease, and the look-ups of its pairs.
use Rattle.std.proofs.Common.{◌≡◌, ℕ, Bool, true, false, cond, ◌&&◌, ◌||◌, [], ◌∷◌, refl, ap, sym, ◌∙◌, arith}
use Rattle.std.specs.Prelude.{nat_lt, nat_le, filter, map, ◌==◌, is_some, Some}
use Rattle.std.specs.List.{AllByRecursion, IsDistinct, list_any}
use Rattle.std.specs.Ordering.{is_le}
use Rattle.std.proofs.lemmas.Bool.Decides.{nat_tests}
use Rattle.ws_laws.proofs.ListLaws.{all_weaker}
use Rattle.ws_delivery.specs.declared.open_pair.OpenPair.{OpenPair}
use Rattle.ws_delivery.specs.OpenOf.{first_versions, open_versions}
use Rattle.ws_delivery.specs.Table.{Rows, is_here, is_of_lease, pair_at, pair_order}
use Rattle.ws_delivery.proofs.RowsByKey.{Ascends, is_from, look_at}

-- a version is among them exactly where its pair is open
pub member_open : (v n : ℕ) (rows : Rows) → list_any (λ w. w == v) (open_versions n rows) ≡ is_some (pair_at v n rows)
member_open v n [] = refl
member_open v n (e ∷ rows) = one (is_of_lease n e) refl (e.0.1 == v) refl (member_open v n rows) ∙ sym (ap is_some (look_at v n e rows))
  where
    here : (v n u m : ℕ) (a b : Bool) → (m == n) ≡ a → (u == v) ≡ b → ((n == m) && (v == u)) ≡ (a && b)
    here v n u m true true p q = grind (arith, nat_tests)
    here v n u m true false p q = grind (arith, nat_tests)
    here v n u m false b p q = grind (arith, nat_tests)

    one : (a : Bool) → is_of_lease n e ≡ a → (b : Bool) → (e.0.1 == v) ≡ b → list_any (λ w. w == v) (open_versions n rows) ≡ is_some (pair_at v n rows)
        → list_any (λ w. w == v) (map (λ e. e.0.1) (cond a (e ∷ filter (is_of_lease n) rows) (filter (is_of_lease n) rows))) ≡ is_some (cond (is_here v n e.0.1 e.0.0) (Some e.1) (pair_at v n rows))
    one true p true q r = ap (λ b. b || list_any (λ w. w == v) (open_versions n rows)) q ∙ sym (ap (λ b. is_some (cond b (Some e.1) (pair_at v n rows))) (here v n e.0.1 e.0.0 true true p q))
    one true p false q r = ap (λ b. b || list_any (λ w. w == v) (open_versions n rows)) q ∙ r ∙ sym (ap (λ b. is_some (cond b (Some e.1) (pair_at v n rows))) (here v n e.0.1 e.0.0 true false p q))
    one false p b q r = r ∙ sym (ap (λ b. is_some (cond b (Some e.1) (pair_at v n rows))) (here v n e.0.1 e.0.0 false b p q))

abbrev IsAbove : (ℕ × ℕ) × OpenPair → (ℕ × ℕ) × OpenPair → Type 0
IsAbove e d = (nat_lt e.0.0 d.0.0 || ((e.0.0 == d.0.0) && nat_lt e.0.1 d.0.1)) ≡ true

-- none stands twice
pub distinct_open : (n : ℕ) (rows : Rows) → Ascends rows → IsDistinct (λ x y. x == y) (open_versions n rows)
unfolding IsDistinct
distinct_open n [] a = tt
distinct_open n (e ∷ rows) a = one (is_of_lease n e) refl (distinct_open n rows a.1)
  where
    other : (n m u k w : ℕ) → (m == n) ≡ true → (nat_lt m k || ((m == k) && nat_lt u w)) ≡ true → (k == n) ≡ true → (u == w) ≡ false
    other n m u k w p q r = grind (arith, nat_tests)

    others : is_of_lease n e ≡ true → (ds : Rows) → AllByRecursion (IsAbove e) ds → AllByRecursion (λ w. (e.0.1 == w) ≡ false) (open_versions n ds)
    others p [] a = tt
    others p (d ∷ ds) a = by (is_of_lease n d) refl (others p ds a.1)
      where
        by : (b : Bool) → is_of_lease n d ≡ b → AllByRecursion (λ w. (e.0.1 == w) ≡ false) (open_versions n ds) → AllByRecursion (λ w. (e.0.1 == w) ≡ false) (map (λ e. e.0.1) (cond b (d ∷ filter (is_of_lease n) ds) (filter (is_of_lease n) ds)))
        by true q r = (other n e.0.0 e.0.1 d.0.0 d.0.1 p a.0 q, r)
        by false q r = r

    one : (b : Bool) → is_of_lease n e ≡ b → IsDistinct (λ x y. x == y) (open_versions n rows) → IsDistinct (λ x y. x == y) (map (λ e. e.0.1) (cond b (e ∷ filter (is_of_lease n) rows) (filter (is_of_lease n) rows)))
    one true p r = (others p rows a.0, r)
    one false p r = r

from_test : (n m u : ℕ) → (is_le (pair_order (n, 0) (m, u)) && true) ≡ nat_le n m
from_test n m u = grind (arith, nat_tests)

-- the rows from a lease on begin with those of the lease
pub first_are : (n : ℕ) (rows : Rows) → Ascends rows → first_versions n (filter (is_from n) rows) ≡ open_versions n rows
first_are n [] a = refl
first_are n (e ∷ rows) a = one (is_from n e) refl (is_of_lease n e) refl (first_are n rows a.1)
  where
    below : (n m u : ℕ) → (is_le (pair_order (n, 0) (m, u)) && true) ≡ false → (m == n) ≡ true → ⊥
    below n m u p q = absurd (grind (arith, nat_tests))

    above : (n m u k w : ℕ) → nat_le n m ≡ true → (m == n) ≡ false → (nat_lt m k || ((m == k) && nat_lt u w)) ≡ true → (k == n) ≡ false
    above n m u k w p q r = grind (arith, nat_tests)

    none : (ds : Rows) → AllByRecursion (λ (d : (ℕ × ℕ) × OpenPair). is_of_lease n d ≡ false) ds → open_versions n ds ≡ []
    none [] a = refl
    none (d ∷ ds) a = ap (λ b. map (λ e. e.0.1) (cond b (d ∷ filter (is_of_lease n) ds) (filter (is_of_lease n) ds))) a.0 ∙ none ds a.1

    one : (b : Bool) → is_from n e ≡ b → (c : Bool) → is_of_lease n e ≡ c → first_versions n (filter (is_from n) rows) ≡ open_versions n rows
        → first_versions n (cond b (e ∷ filter (is_from n) rows) (filter (is_from n) rows)) ≡ map (λ e. e.0.1) (cond c (e ∷ filter (is_of_lease n) rows) (filter (is_of_lease n) rows))
    one true p true q r = ap (λ b. cond b (e.0.1 ∷ first_versions n (filter (is_from n) rows)) []) q ∙ ap (λ vs. e.0.1 ∷ vs) r
    one true p false q r =
        ap (λ b. cond b (e.0.1 ∷ first_versions n (filter (is_from n) rows)) []) q
        ∙ sym (none rows (all_weaker (IsAbove e) (λ d. is_of_lease n d ≡ false) (λ d k. above n e.0.0 e.0.1 d.0.0 d.0.1 (sym (from_test n e.0.0 e.0.1) ∙ p) q k) rows a.0))
    one false p true q r = absurd (below n e.0.0 e.0.1 p q)
    one false p false q r = r
