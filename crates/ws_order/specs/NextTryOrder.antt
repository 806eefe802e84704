-- The order of next tries is one.
use Rattle.std.proofs.Common.{◌≡◌, ℕ, Bool, true, false, ◌&&◌, ◌||◌, refl, arith}
use Rattle.std.specs.Prelude.{nat_lt, ◌==◌}
use Rattle.std.proofs.lemmas.Bool.Decides.{nat_tests}
use Rattle.ws_order.specs.Orders.{IsOrder}
use Rattle.ws_order.specs.declared.next_try.NextTry.{NextTry}
use Rattle.ws_order.specs.NextTries.{before, same}

abbrev lower : ℕ → ℕ → ℕ → ℕ → ℕ → ℕ → ℕ → ℕ → Bool
lower a b c d e f g h = nat_lt a e || ((a == e) && (nat_lt b f || ((b == f) && (nat_lt c g || ((c == g) && nat_lt d h)))))

abbrev like : ℕ → ℕ → ℕ → ℕ → ℕ → ℕ → ℕ → ℕ → Bool
like a b c d e f g h = (a == e) && ((b == f) && ((c == g) && (d == h)))

-- one place of the comparison, and the places behind it
then_lower : (a b c : ℕ) (p q r : Bool) → (p ≡ true → q ≡ true → r ≡ true) → (nat_lt a b || ((a == b) && p)) ≡ true → (nat_lt b c || ((b == c) && q)) ≡ true → (nat_lt a c || ((a == c) && r)) ≡ true
then_lower a b c true true r f h k = rw (f refl refl) (both a b c h k)
  where
    both : (a b c : ℕ) → (nat_lt a b || ((a == b) && true)) ≡ true → (nat_lt b c || ((b == c) && true)) ≡ true → (nat_lt a c || ((a == c) && true)) ≡ true
    both a b c h k = grind (arith, nat_tests)
then_lower a b c true false r f h k = one a b c r h k
  where
    one : (a b c : ℕ) (r : Bool) → (nat_lt a b || ((a == b) && true)) ≡ true → (nat_lt b c || ((b == c) && false)) ≡ true → (nat_lt a c || ((a == c) && r)) ≡ true
    one a b c r h k = grind (arith, nat_tests)
then_lower a b c false q r f h k = other a b c q r h k
  where
    other : (a b c : ℕ) (q r : Bool) → (nat_lt a b || ((a == b) && false)) ≡ true → (nat_lt b c || ((b == c) && q)) ≡ true → (nat_lt a c || ((a == c) && r)) ≡ true
    other a b c q r h k = grind (arith, nat_tests)

lt_then : (a b c : ℕ) → nat_lt a b ≡ true → nat_lt b c ≡ true → nat_lt a c ≡ true
lt_then a b c h k = grind (arith, nat_tests)

lower_then : (a b c d e f g h i j k l : ℕ) → lower a b c d e f g h ≡ true → lower e f g h i j k l ≡ true → lower a b c d i j k l ≡ true
lower_then a b c d e f g h i j k l p q =
    then_lower a e i (nat_lt b f || ((b == f) && (nat_lt c g || ((c == g) && nat_lt d h)))) (nat_lt f j || ((f == j) && (nat_lt g k || ((g == k) && nat_lt h l)))) (nat_lt b j || ((b == j) && (nat_lt c k || ((c == k) && nat_lt d l)))) (then_lower b f j (nat_lt c g || ((c == g) && nat_lt d h)) (nat_lt g k || ((g == k) && nat_lt h l)) (nat_lt c k || ((c == k) && nat_lt d l)) (then_lower c g k (nat_lt d h) (nat_lt h l) (nat_lt d l) (lt_then d h l))) p q

lower_back : (a b c d e f g h : ℕ) → lower a b c d e f g h ≡ true → lower e f g h a b c d ≡ false
lower_back a b c d e f g h p = grind (arith, nat_tests)

lower_either : (a b c d e f g h : ℕ) → lower a b c d e f g h ≡ false → lower e f g h a b c d ≡ false → like a b c d e f g h ≡ true
lower_either a b c d e f g h p q = grind (arith, nat_tests)

like_itself : (a b c d : ℕ) → like a b c d a b c d ≡ true
like_itself a b c d = grind (arith, nat_tests)

-- the same is equal
same_is : (x y : NextTry) → same x y ≡ true → x ≡ y
same_is x y p =
    let parts = by x.at x.ver x.lease x.exp y.at y.ver y.lease y.exp p in
    λ i. record { at = parts.0 i; ver = parts.1 i; lease = parts.2 i; exp = parts.3 i }
  where
    by : (a b c d e f g h : ℕ) → like a b c d e f g h ≡ true → (a ≡ e) × (b ≡ f) × (c ≡ g) × (d ≡ h)
    by a b c d e f g h p = (grind (arith, nat_tests), grind (arith, nat_tests), grind (arith, nat_tests), grind (arith, nat_tests))

pub next_tries_order : IsOrder before same
next_tries_order =
    record {
      then = λ x y z p q. lower_then x.at x.ver x.lease x.exp y.at y.ver y.lease y.exp z.at z.ver z.lease z.exp p q;
      not_back = λ x y p. lower_back x.at x.ver x.lease x.exp y.at y.ver y.lease y.exp p;
      either = λ x y p q. lower_either x.at x.ver x.lease x.exp y.at y.ver y.lease y.exp p q;
      itself = λ x. like_itself x.at x.ver x.lease x.exp;
      is = same_is;
    }
