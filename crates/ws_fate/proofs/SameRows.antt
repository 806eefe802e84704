-- Rows that are held in order are known by their look-ups.
use Rattle.std.proofs.Common.{◌≡◌, ℕ, Bool, true, false, cond, ◌&&◌, ◌||◌, List, [], ◌∷◌, refl, ap, sym, ◌∙◌, subst, arith}
use Rattle.std.specs.Prelude.{nat_lt, ◌==◌, Option, Some, None}
use Rattle.std.specs.List.{AllByRecursion}
use Rattle.std.specs.List.Sorted.{IsStrictlySortedBy}
use Rattle.std.specs.Map.{keys_of, lookup}
use Rattle.std.specs.BTreeMap.{is_at}
use Rattle.std.specs.declared.cmp.Ordering.TheVariants.{Less}
use Rattle.std.proofs.lemmas.Bool.Decides.{nat_tests}
use Rattle.std.proofs.lemmas.List.Elements.{recursion_from_All}
use Rattle.std.proofs.lemmas.Map.Views.{All-after_first}
use Rattle.ws_fate.specs.Rows.{Rows, is_here, pair_order, standing_at}

-- the first key is below the second
abbrev is_below : ℕ × ℕ → ℕ × ℕ → Bool
is_below k q = nat_lt k.0 q.0 || ((k.0 == q.0) && nat_lt k.1 q.1)

key_order : (n v m w : ℕ) → pair_order (n, v) (m, w) ≡ Less → (nat_lt n m || ((n == m) && nat_lt v w)) ≡ true
key_order n v m w k = grind (arith, nat_tests)

sorted_rest : (k : ℕ × ℕ) (ks : List (ℕ × ℕ)) → IsStrictlySortedBy pair_order (k ∷ ks) → IsStrictlySortedBy pair_order ks
unfolding IsStrictlySortedBy
sorted_rest k ks s = s.1

key_test : (n v m w : ℕ) → is_at (pair_order (n, v)) (m, w) ≡ is_here v n w m
key_test n v m w = grind (arith, nat_tests)

itself : (n v : ℕ) → is_here v n v n ≡ true
itself n v = grind (arith, nat_tests)

apart : (n v m w : ℕ) → (nat_lt n m || ((n == m) && nat_lt v w)) ≡ true → is_here v n w m ≡ false
apart n v m w k = grind (arith, nat_tests)

through : (n v m w a b : ℕ) → (nat_lt n m || ((n == m) && nat_lt v w)) ≡ true → (nat_lt m a || ((m == a) && nat_lt w b)) ≡ true → (nat_lt n a || ((n == a) && nat_lt v b)) ≡ true
through n v m w a b p q = grind (arith, nat_tests)

equal : (a b c d : ℕ) → (nat_lt a c || ((a == c) && nat_lt b d)) ≡ false → (nat_lt c a || ((c == a) && nat_lt d b)) ≡ false → (a ≡ c) × (b ≡ d)
equal a b c d p q = (grind (arith, nat_tests), grind (arith, nat_tests))

here_is : (v n w m : ℕ) → is_here v n w m ≡ true → (m ≡ n) × (w ≡ v)
here_is v n w m k = (grind (arith, nat_tests), grind (arith, nat_tests))

-- entries by pairs of numbers, rising
module _ {X : Type 0} where
  abbrev at : ℕ → ℕ → List ((ℕ × ℕ) × X) → Option X
  at v n pairs = lookup (is_at (pair_order (n, v))) pairs

  abbrev Ascends : List ((ℕ × ℕ) × X) → Type 0
  Ascends [] = Unit {0}
  Ascends (e ∷ pairs) = AllByRecursion (λ (d : (ℕ × ℕ) × X). is_below e.0 d.0 ≡ true) pairs × Ascends pairs

  over_keys : (k : ℕ × ℕ) (pairs : List ((ℕ × ℕ) × X)) → AllByRecursion (λ q. pair_order k q ≡ Less) (keys_of pairs) → AllByRecursion (λ (d : (ℕ × ℕ) × X). is_below k d.0 ≡ true) pairs
  over_keys k [] a = tt
  over_keys k (e ∷ pairs) a = (key_order k.0 k.1 e.0.0 e.0.1 a.0, over_keys k pairs a.1)

  pub ascends : (pairs : List ((ℕ × ℕ) × X)) → IsStrictlySortedBy pair_order (keys_of pairs) → Ascends pairs
  ascends [] s = tt
  ascends (e ∷ pairs) s = (over_keys e.0 pairs (recursion_from_All (λ q. pair_order e.0 q ≡ Less) (keys_of pairs) (All-after_first pair_order e.0 (keys_of pairs) s)), ascends pairs (sorted_rest e.0 (keys_of pairs) s))

  look_at : (v n : ℕ) (e : (ℕ × ℕ) × X) (pairs : List ((ℕ × ℕ) × X)) → at v n (e ∷ pairs) ≡ cond (is_here v n e.0.1 e.0.0) (Some e.1) (at v n pairs)
  look_at v n e pairs = ap (λ b. cond b (Some e.1) (at v n pairs)) (key_test n v e.0.0 e.0.1)

  at_head : (e : (ℕ × ℕ) × X) (pairs : List ((ℕ × ℕ) × X)) → at e.0.1 e.0.0 (e ∷ pairs) ≡ Some e.1
  at_head e pairs = look_at e.0.1 e.0.0 e pairs ∙ ap (λ b. cond b (Some e.1) (at e.0.1 e.0.0 pairs)) (itself e.0.0 e.0.1)

  -- nothing is at a key below all others
  none_below : (k : ℕ × ℕ) (pairs : List ((ℕ × ℕ) × X)) → AllByRecursion (λ (d : (ℕ × ℕ) × X). is_below k d.0 ≡ true) pairs → at k.1 k.0 pairs ≡ None
  none_below k [] a = refl
  none_below k (d ∷ pairs) a = look_at k.1 k.0 d pairs ∙ ap (λ b. cond b (Some d.1) (at k.1 k.0 pairs)) (apart k.0 k.1 d.0.0 d.0.1 a.0) ∙ none_below k pairs a.1

  all_above : (k : ℕ × ℕ) (e : (ℕ × ℕ) × X) (pairs : List ((ℕ × ℕ) × X)) → is_below k e.0 ≡ true → AllByRecursion (λ (d : (ℕ × ℕ) × X). is_below e.0 d.0 ≡ true) pairs → AllByRecursion (λ (d : (ℕ × ℕ) × X). is_below k d.0 ≡ true) pairs
  all_above k e [] p a = tt
  all_above k e (d ∷ pairs) p a = (through k.0 k.1 e.0.0 e.0.1 d.0.0 d.0.1 p a.0, all_above k e pairs p a.1)

  none_some : (s : X) → ◌≡◌ {A = Option X} None (Some s) → ⊥
  none_some s k = cc

  some_same : (s u : X) → Some s ≡ Some u → s ≡ u
  some_same s u k = cc

  -- behind the first pair
  behind : (v n : ℕ) (e : (ℕ × ℕ) × X) (es fs : List ((ℕ × ℕ) × X)) → AllByRecursion (λ (d : (ℕ × ℕ) × X). is_below e.0 d.0 ≡ true) es → AllByRecursion (λ (d : (ℕ × ℕ) × X). is_below e.0 d.0 ≡ true) fs → at v n (e ∷ es) ≡ at v n (e ∷ fs) → at v n es ≡ at v n fs
  behind v n e es fs a b k = one (is_here v n e.0.1 e.0.0) refl (sym (look_at v n e es) ∙ k ∙ look_at v n e fs)
    where
      none : is_here v n e.0.1 e.0.0 ≡ true → (pairs : List ((ℕ × ℕ) × X)) → AllByRecursion (λ (d : (ℕ × ℕ) × X). is_below e.0 d.0 ≡ true) pairs → at v n pairs ≡ None
      none p pairs a = let q = here_is v n e.0.1 e.0.0 p in (λ j. at (sym q.1 j) (sym q.0 j) pairs) ∙ none_below e.0 pairs a

      one : (c : Bool) → is_here v n e.0.1 e.0.0 ≡ c → cond c (Some e.1) (at v n es) ≡ cond c (Some e.1) (at v n fs) → at v n es ≡ at v n fs
      one true p q = none p es a ∙ sym (none p fs b)
      one false p q = q

  pub same_pairs : (es fs : List ((ℕ × ℕ) × X)) → Ascends es → Ascends fs → ((v n : ℕ) → at v n es ≡ at v n fs) → es ≡ fs
  same_pairs [] [] s u f = refl
  same_pairs [] (r ∷ fs) s u f = absurd (none_some r.1 (f r.0.1 r.0.0 ∙ at_head r fs))
  same_pairs (e ∷ es) [] s u f = absurd (none_some e.1 (sym (f e.0.1 e.0.0) ∙ at_head e es))
  same_pairs (e ∷ es) (r ∷ fs) s u f = by (is_below e.0 r.0) refl (is_below r.0 e.0) refl (same_pairs es fs s.1 u.1)
    where
      by : (b : Bool) → is_below e.0 r.0 ≡ b → (c : Bool) → is_below r.0 e.0 ≡ c → (((v n : ℕ) → at v n es ≡ at v n fs) → es ≡ fs) → e ∷ es ≡ r ∷ fs
      by true p c q g = absurd (none_some e.1 (sym (none_below e.0 (r ∷ fs) (p, all_above e.0 r fs p u.0)) ∙ sym (f e.0.1 e.0.0) ∙ at_head e es))
      by false p true q g = absurd (none_some r.1 (sym (none_below r.0 (e ∷ es) (q, all_above r.0 e es q s.0)) ∙ f r.0.1 r.0.0 ∙ at_head r fs))
      by false p false q g =
          let k = equal e.0.0 e.0.1 r.0.0 r.0.1 p q in
          let key : e.0 ≡ r.0 = λ j. (k.0 j, k.1 j) in
          let value : e.1 ≡ r.1 = some_same e.1 r.1 (sym (at_head e es) ∙ f e.0.1 e.0.0 ∙ (λ j. at (k.1 j) (k.0 j) (r ∷ fs)) ∙ at_head r fs) in
          let same : e ≡ r = λ j. (key j, value j) in
          let rest = g (λ v n. behind v n e es fs s.0 (subst (λ (z : (ℕ × ℕ) × X). AllByRecursion (λ (d : (ℕ × ℕ) × X). is_below z.0 d.0 ≡ true) fs) (sym same) u.0) (f v n ∙ ap (λ (z : (ℕ × ℕ) × X). at v n (z ∷ fs)) (sym same))) in
          (λ j. same j ∷ rest j)

-- the rows are the same, where they say the same of each pair and count the same
pub same_rows : (old new : Rows) → IsStrictlySortedBy pair_order (keys_of old.pairs) → IsStrictlySortedBy pair_order (keys_of new.pairs) → ((v n : ℕ) → standing_at v n new ≡ standing_at v n old) → new.totals ≡ old.totals → new ≡ old
same_rows old new s u f k = let p = same_pairs new.pairs old.pairs (ascends new.pairs u) (ascends old.pairs s) f in (λ j. record { pairs = p j; totals = k j })
