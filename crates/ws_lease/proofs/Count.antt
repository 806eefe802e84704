-- How many ends are after a time.
use Rattle.std.proofs.Common.{◌≡◌, ℕ, ◌<◌, ◌≤◌, true, false, cond, List, ◌∷◌, ap, arith}
use Rattle.std.specs.Prelude.{nat_lt, filter}
use Rattle.std.specs.List.Sorted.{IsStrictlySortedBy}
use Rattle.std.specs.Ordering.{nat_cmp, ordering_then}
use Rattle.std.specs.declared.cmp.Ordering.{Ordering}
use Rattle.std.specs.declared.cmp.Ordering.TheVariants.{Less}
use Rattle.std.proofs.lemmas.Bool.Decides.{nat_tests}
use Rattle.ws_laws.proofs.ListLaws.{all_weaker, filter_all}
use Rattle.ws_lease.specs.Indexed.{end_order}

not_before : (x y : ℕ × ℕ) → end_order x y ≡ Less → x.0 ≤ y.0
not_before x y e = by x.0 y.0 _ e
  where
    by : (a b : ℕ) (o : Ordering) → ordering_then (nat_cmp a b) o ≡ Less → a ≤ b
    by a b o e = grind (arith, nat_tests)

after : (t : ℕ) (k : ℕ × ℕ) → t < k.0 → nat_lt t k.0 ≡ true
after t k e = grind (arith, nat_tests)

-- from one that is after it on, all are
pub all_after : (t : ℕ) (k : ℕ × ℕ) (ks : List (ℕ × ℕ)) → IsStrictlySortedBy end_order (k ∷ ks) → t < k.0 → filter (λ q. nat_lt t q.0) (k ∷ ks) ≡ k ∷ ks
unfolding IsStrictlySortedBy
all_after t k ks s e =
    filter_all (λ q. nat_lt t q.0) (k ∷ ks)
    (after t k e, all_weaker (λ q. end_order k q ≡ Less) (λ q. nat_lt t q.0 ≡ true) (λ q r. after t q (let b : k.0 ≤ q.0 = not_before k q r in omega arith)) ks s.0)

pub sorted_rest : (k : ℕ × ℕ) (ks : List (ℕ × ℕ)) → IsStrictlySortedBy end_order (k ∷ ks) → IsStrictlySortedBy end_order ks
unfolding IsStrictlySortedBy
sorted_rest k ks s = s.1

pub skipped : (t : ℕ) (k : ℕ × ℕ) (ks : List (ℕ × ℕ)) → k.0 ≤ t → filter (λ q. nat_lt t q.0) (k ∷ ks) ≡ filter (λ q. nat_lt t q.0) ks
skipped t k ks e = ap (λ b. cond b (k ∷ filter (λ q. nat_lt t q.0) ks) (filter (λ q. nat_lt t q.0) ks)) (let z : nat_lt t k.0 ≡ false = grind (arith, nat_tests) in z)
