-- Numbers as keys, the lower first (own).
use Rattle.std.specs.Prelude.{◌≡◌, ℕ, Bool, true, false, nat_lt, ◌==◌}
use Rattle.std.proofs.Common.{arith}
use Rattle.std.proofs.lemmas.Bool.Decides.{nat_tests}
use Rattle.ws_order.specs.Orders.{IsOrder}

abbrev pub same_number : ℕ → ℕ → Bool
same_number x y = y == x

then : (x y z : ℕ) → nat_lt x y ≡ true → nat_lt y z ≡ true → nat_lt x z ≡ true
then x y z p q = grind (arith, nat_tests)

not_back : (x y : ℕ) → nat_lt x y ≡ true → nat_lt y x ≡ false
not_back x y p = grind (arith, nat_tests)

either : (x y : ℕ) → nat_lt x y ≡ false → nat_lt y x ≡ false → same_number x y ≡ true
either x y p q = grind (arith, nat_tests)

itself : (x : ℕ) → same_number x x ≡ true
itself x = grind (arith, nat_tests)

is : (x y : ℕ) → same_number x y ≡ true → x ≡ y
is x y p = grind (arith, nat_tests)

pub numbers_order : IsOrder nat_lt same_number
numbers_order = record { then = then; not_back = not_back; either = either; itself = itself; is = is }
