-- Numbers that rise: what one more or one less leaves.
use Rattle.std.proofs.Common.{◌≡◌, ℕ, ◌<◌, ◌≤◌, Bool, true, false, cond, not, ◌&&◌, ◌||◌, List, [], ◌∷◌, ◌++◌, refl, ap, sym, ◌∙◌, subst, arith}
use Rattle.std.specs.Prelude.{filter, nat_lt, ◌==◌, Option, Some, None}
use Rattle.std.specs.List.{AllByRecursion}
use Rattle.std.proofs.lemmas.Bool.Decides.{nat_tests}
use Rattle.std.proofs.lemmas.Bool.{or_from, eqb-true, ltb-true}
use Rattle.ws_model.specs.Due.{place}
use Rattle.ws_order.specs.NumberOrder.{numbers_order, same_number}
use Rattle.ws_order.specs.Orders.{Rises}
use Rattle.ws_order.proofs.Rising.{all_weaker, rising_filter, rising_place}
use Rattle.ws_intent.specs.Rising.{IsRising, has_number}

pub itself : (n : ℕ) → (n == n) ≡ true
itself n = grind (arith, nat_tests)

apart : (x y q : ℕ) → x < y → (x == q) ≡ true → (y == q) ≡ false
apart x y q k e = grind (arith, nat_tests)

pub not_lt : (a b : ℕ) → nat_lt a b ≡ false → b ≤ a
not_lt a b e = grind (arith, nat_tests)

pub not_in : (x q : ℕ) (xs : List ℕ) → AllByRecursion (λ (y : ℕ). x < y) xs → (x == q) ≡ true → has_number xs q ≡ false
not_in x q [] a e = refl
not_in x q (y ∷ ys) a e = or_from _ _ (apart x y q a.0 e) (not_in x q ys a.1 e)

-- ---- as an order's list

lower : (a b : ℕ) → a < b → nat_lt a b ≡ true
lower a b k = grind (arith, nat_tests)

to_rises : (xs : List ℕ) → IsRising xs → Rises nat_lt xs
to_rises [] r = tt
to_rises (x ∷ xs) r = (all_weaker (λ (y : ℕ). x < y) (λ y. nat_lt x y ≡ true) (λ y k. lower x y k) xs r.0, to_rises xs r.1)

from_rises : (xs : List ℕ) → Rises nat_lt xs → IsRising xs
from_rises [] r = tt
from_rises (x ∷ xs) r = (all_weaker (λ y. nat_lt x y ≡ true) (λ (y : ℕ). x < y) (λ y k. ltb-true x y k) xs r.0, from_rises xs r.1)

-- ---- one less

filter_has : (n q : ℕ) (xs : List ℕ) → has_number (filter (λ x. not (same_number n x)) xs) q ≡ (not (n == q) && has_number xs q)
filter_has n q [] = none (n == q)
  where
    none : (c : Bool) → false ≡ (not c && false)
    none true = refl
    none false = refl
filter_has n q (x ∷ xs) = one (x == n) refl (filter_has n q xs)
  where
    turned : (a b c : ℕ) → (a == b) ≡ true → (a == c) ≡ (b == c)
    turned a b c e = grind (arith, nat_tests)

    apart_then : (a b c : ℕ) → (a == b) ≡ false → (b == c) ≡ true → (a == c) ≡ false
    apart_then a b c e k = grind (arith, nat_tests)

    gone : (c d : Bool) → c ≡ d → (b : Bool) → (not d && b) ≡ (not d && (c || b))
    gone true true e b = refl
    gone true false e b = absurd (grind arith)
    gone false true e b = refl
    gone false false e b = refl

    kept : (c d b : Bool) → (d ≡ true → c ≡ false) → (c || (not d && b)) ≡ (not d && (c || b))
    kept true true b f = absurd (grind arith)
    kept true false b f = refl
    kept false d b f = refl

    one : (b : Bool) → (x == n) ≡ b → has_number (filter (λ y. not (same_number n y)) xs) q ≡ (not (n == q) && has_number xs q) → has_number (cond (not b) (x ∷ filter (λ y. not (same_number n y)) xs) (filter (λ y. not (same_number n y)) xs)) q ≡ (not (n == q) && ((x == q) || has_number xs q))
    one true e r = r ∙ gone (x == q) (n == q) (turned x n q e) (has_number xs q)
    one false e r = ap (λ b. (x == q) || b) r ∙ kept (x == q) (n == q) (has_number xs q) (λ k. apart_then x n q e k)

-- what is left where n is taken out
pub record IsWithout (xs ys : List ℕ) (n : ℕ) : Type 0 where
  pub rising : IsRising ys
  pub has : (q : ℕ) → has_number ys q ≡ (not (n == q) && has_number xs q)

pub gone : (xs ys : List ℕ) (n : ℕ) → IsRising xs → ys ≡ filter (λ x. not (same_number n x)) xs → IsWithout xs ys n
gone xs ys n r e =
    record {
      rising = subst IsRising (sym e) (from_rises _ (rising_filter numbers_order (λ x. not (same_number n x)) xs (to_rises xs r)));
      has = λ q. ap (λ zs. has_number zs q) e ∙ filter_has n q xs;
    }

-- where n isn't there, nothing is taken out
pub absent : (xs : List ℕ) (n q : ℕ) → has_number xs n ≡ false → (not (n == q) && has_number xs q) ≡ has_number xs q
absent xs n q h = by (n == q) refl
  where
    by : (b : Bool) → (n == q) ≡ b → (not b && has_number xs q) ≡ has_number xs q
    by true e = sym (subst (λ x. has_number xs x ≡ false) (eqb-true n q e) h)
    by false e = refl

-- ---- one more

or_swap : (a b c : Bool) → (a || (b || c)) ≡ (b || (a || c))
or_swap true true c = refl
or_swap true false c = refl
or_swap false b c = refl

place_has : (m q : ℕ) (xs : List ℕ) → has_number (place nat_lt m xs) q ≡ ((m == q) || has_number xs q)
place_has m q [] = refl
place_has m q (x ∷ xs) = one (nat_lt m x) (place_has m q xs)
  where
    one : (b : Bool) → has_number (place nat_lt m xs) q ≡ ((m == q) || has_number xs q) → has_number (cond b (m ∷ x ∷ xs) (x ∷ place nat_lt m xs)) q ≡ ((m == q) || ((x == q) || has_number xs q))
    one true r = refl
    one false r = ap (λ b. (x == q) || b) r ∙ or_swap (x == q) (m == q) (has_number xs q)

-- what is there where m is put in
pub record IsWith (xs ys : List ℕ) (m : ℕ) : Type 0 where
  pub rising : IsRising ys
  pub has : (q : ℕ) → has_number ys q ≡ ((m == q) || has_number xs q)

pub entered : (xs ys : List ℕ) (m : ℕ) → IsRising xs → has_number xs m ≡ false → ys ≡ place nat_lt m xs → IsWith xs ys m
entered xs ys m r h e =
    record {
      rising = subst IsRising (sym e) (from_rises _ (rising_place numbers_order m xs h (to_rises xs r)));
      has = λ q. ap (λ zs. has_number zs q) e ∙ place_has m q xs;
    }

-- a number above all others is put in last
pub place_last : (n : ℕ) (xs : List ℕ) → AllByRecursion (λ (x : ℕ). x < n) xs → place nat_lt n xs ≡ xs ++ n ∷ []
place_last n [] a = refl
place_last n (x ∷ xs) a = rw (not_under n x a.0) (ap (λ ys. x ∷ ys) (place_last n xs a.1))
  where
    not_under : (a b : ℕ) → b < a → nat_lt a b ≡ false
    not_under a b k = grind (arith, nat_tests)

pub already : (xs : List ℕ) (m q : ℕ) → has_number xs m ≡ true → has_number xs q ≡ ((m == q) || has_number xs q)
already xs m q h = by (m == q) refl
  where
    by : (b : Bool) → (m == q) ≡ b → has_number xs q ≡ (b || has_number xs q)
    by true e = subst (λ x. has_number xs x ≡ true) (eqb-true m q e) h
    by false e = refl

pub nothing : {X : Type 0} (o : Option X) → ((x : X) → o ≡ Some x → ⊥) → o ≡ None
nothing None e = refl
nothing (Some x) e = absurd (e x refl)
