-- Open pairs in the order of lease and version, and the first of each lease.
use Rattle.std.proofs.Common.{◌≡◌, ℕ, ◌+◌, ◌<◌, Bool, true, false, cond, ◌&&◌, ◌||◌, List, [], ◌∷◌, refl, ap, sym, ◌∙◌, subst, arith, length, ◌⊎◌, inl, inr}
use Rattle.std.specs.Prelude.{filter, nat_lt, nat_le, ◌==◌, Option, Some, None, IsSome, IsSomeAnd, is_some}
use Rattle.std.specs.List.{AllByRecursion}
use Rattle.std.specs.List.Sorted.{IsStrictlySortedBy}
use Rattle.std.specs.Map.{lookup, keys_of, remove_entry}
use Rattle.std.specs.BTreeMap.{is_at, insert_entry}
use Rattle.std.specs.Ordering.{is_le, is_lt, is_eq as is_order_eq, match_ordering}
use Rattle.std.specs.declared.cmp.Ordering.{Ordering}
use Rattle.std.specs.declared.cmp.Ordering.TheVariants.{Less, Equal, Greater}
use Rattle.std.proofs.lemmas.Map.Views.{All-after_first}
use Rattle.std.proofs.lemmas.List.Elements.{recursion_from_All}
use Rattle.std.proofs.lemmas.Bool.{false≢true, cases_order}
use Rattle.std.proofs.lemmas.Bool.Decides.{nat_tests}
use Rattle.ws_order.specs.declared.next_try.NextTry.{NextTry}
use Rattle.ws_delivery.specs.declared.open_pair.OpenPair.{OpenPair}
use Rattle.ws_delivery.specs.Table.{Rows, pair_order, pair_at, is_here, is_of_lease, number_of, IsNextOpen}
use Rattle.ws_delivery.specs.Indexed.{try_of, head_try}

-- ---- keys

pub key_test : (n v m w : ℕ) → is_at (pair_order (n, v)) (m, w) ≡ is_here v n w m
key_test n v m w = grind (arith, nat_tests)

key_order : (m u n w : ℕ) → pair_order (m, u) (n, w) ≡ Less → (nat_lt m n || ((m == n) && nat_lt u w)) ≡ true
key_order m u n w e = grind (arith, nat_tests)

-- keys in order, as a recursion over the rows
abbrev pub Ascends : Rows → Type 0
Ascends [] = Unit {0}
Ascends (e ∷ rows) = AllByRecursion (λ (d : (ℕ × ℕ) × OpenPair). (nat_lt e.0.0 d.0.0 || ((e.0.0 == d.0.0) && nat_lt e.0.1 d.0.1)) ≡ true) rows × Ascends rows

over_keys : (P : ℕ × ℕ → Type 0) (Q : (ℕ × ℕ) × OpenPair → Type 0) → ((d : (ℕ × ℕ) × OpenPair) → P d.0 → Q d) → (rows : Rows) → AllByRecursion P (keys_of rows) → AllByRecursion Q rows
over_keys P Q f [] a = tt
over_keys P Q f (e ∷ rows) a = (f e a.0, over_keys P Q f rows a.1)

sorted_rest : (k : ℕ × ℕ) (ks : List (ℕ × ℕ)) → IsStrictlySortedBy pair_order (k ∷ ks) → IsStrictlySortedBy pair_order ks
unfolding IsStrictlySortedBy
sorted_rest k ks s = s.1

pub ascends : (rows : Rows) → IsStrictlySortedBy pair_order (keys_of rows) → Ascends rows
ascends [] s = tt
ascends (e ∷ rows) s = (
  over_keys (λ q. pair_order e.0 q ≡ Less) (λ d. (nat_lt e.0.0 d.0.0 || ((e.0.0 == d.0.0) && nat_lt e.0.1 d.0.1)) ≡ true) (λ d k. key_order e.0.0 e.0.1 d.0.0 d.0.1 k) rows
      (recursion_from_All (λ q. pair_order e.0 q ≡ Less) (keys_of rows) (All-after_first pair_order e.0 (keys_of rows) s)),
  ascends rows (sorted_rest e.0 (keys_of rows) s),
)

-- ---- the pair of a version and a lease

pub look_at : (v n : ℕ) (e : (ℕ × ℕ) × OpenPair) (rows : Rows) → pair_at v n (e ∷ rows) ≡ cond (is_here v n e.0.1 e.0.0) (Some e.1) (pair_at v n rows)
look_at v n e rows = ap (λ b. cond b (Some e.1) (pair_at v n rows)) (key_test n v e.0.0 e.0.1)

-- no row from one on has a key below its own
none_below : (m u v n : ℕ) → (nat_lt n m || ((n == m) && nat_lt v u)) ≡ true → (rows : Rows) → AllByRecursion (λ (d : (ℕ × ℕ) × OpenPair). (nat_lt m d.0.0 || ((m == d.0.0) && nat_lt u d.0.1)) ≡ true) rows → pair_at v n rows ≡ None
none_below m u v n k [] a = refl
none_below m u v n k (e ∷ rows) a = look_at v n e rows ∙ ap (λ b. cond b (Some e.1) (pair_at v n rows)) (apart n v m u e.0.0 e.0.1 k a.0) ∙ none_below m u v n k rows a.1
  where
    apart : (n v m u x y : ℕ) → (nat_lt n m || ((n == m) && nat_lt v u)) ≡ true → (nat_lt m x || ((m == x) && nat_lt u y)) ≡ true → ((n == x) && (v == y)) ≡ false
    apart n v m u x y k l = grind (arith, nat_tests)

-- ---- the first pair of a lease

pub no_head : (n : ℕ) (rows : Rows) → head_try n rows ≡ None → (v : ℕ) → pair_at v n rows ≡ None
no_head n [] e v = refl
no_head n (r ∷ rows) e v = one (is_of_lease n r) refl e (λ k. no_head n rows k v)
  where
    one : (b : Bool) → is_of_lease n r ≡ b → cond b (Some (try_of r)) (head_try n rows) ≡ None → (head_try n rows ≡ None → pair_at v n rows ≡ None) → pair_at v n (r ∷ rows) ≡ None
    one true p e f = absurd (cc)
    one false p e f = look_at v n r rows ∙ ap (λ b. cond b (Some r.1) (pair_at v n rows)) (other r.0.0 r.0.1 n v p) ∙ f e
      where
        other : (m u n v : ℕ) → (m == n) ≡ false → ((n == m) && (v == u)) ≡ false
        other m u n v p = grind (arith, nat_tests)

-- what the first pair of a lease is
pub record IsHead (n : ℕ) (rows : Rows) (x : NextTry) : Type 0 where
  pub of_lease : x.lease ≡ n
  pub pair : OpenPair
  pub open_pair : pair_at x.ver n rows ≡ Some pair
  pub is : x ≡ try_of ((n, x.ver), pair)
  pub lowest : (w : ℕ) → w < x.ver → pair_at w n rows ≡ None

pub head_is : (n : ℕ) (rows : Rows) (x : NextTry) → Ascends rows → head_try n rows ≡ Some x → IsHead n rows x
head_is n [] x s e = absurd (cc)
head_is n (r ∷ rows) x s e = one (is_of_lease n r) refl e (head_is n rows x s.1)
  where
    same : (m u n : ℕ) → (m == n) ≡ true → ((n == m) && (u == u)) ≡ true
    same m u n p = grind (arith, nat_tests)

    lower : (m u n w : ℕ) → (m == n) ≡ true → w < u → ((n == m) && (w == u)) ≡ false
    lower m u n w p k = grind (arith, nat_tests)

    under : (m u n w : ℕ) → (m == n) ≡ true → w < u → (nat_lt n m || ((n == m) && nat_lt w u)) ≡ true
    under m u n w p k = grind (arith, nat_tests)

    other : (m u n v : ℕ) → (m == n) ≡ false → ((n == m) && (v == u)) ≡ false
    other m u n v p = grind (arith, nat_tests)

    eq : (m n : ℕ) → (m == n) ≡ true → m ≡ n
    eq m n p = grind (arith, nat_tests)

    first : is_of_lease n r ≡ true → try_of r ≡ x → IsHead n (r ∷ rows) x
    first p q =
        let ver : r.0.1 ≡ x.ver = ap (λ (z : NextTry). z.ver) q in
        subst (IsHead n (r ∷ rows)) q (record {
          of_lease = eq r.0.0 n p;
          pair = r.1;
          open_pair = look_at r.0.1 n r rows ∙ ap (λ b. cond b (Some r.1) (pair_at r.0.1 n rows)) (same r.0.0 r.0.1 n p);
          is = ap (λ z. try_of ((z, r.0.1), r.1)) (eq r.0.0 n p);
          lowest = λ w k. look_at w n r rows ∙ ap (λ b. cond b (Some r.1) (pair_at w n rows)) (lower r.0.0 r.0.1 n w p k) ∙ none_below r.0.0 r.0.1 w n (under r.0.0 r.0.1 n w p k) rows s.0;
        })

    one : (b : Bool) → is_of_lease n r ≡ b → cond b (Some (try_of r)) (head_try n rows) ≡ Some x → (head_try n rows ≡ Some x → IsHead n rows x) → IsHead n (r ∷ rows) x
    one true p e f = let q : try_of r ≡ x = cc in first p q
    one false p e f =
        let h = f e in
        record {
          of_lease = h.of_lease;
          pair = h.pair;
          open_pair = look_at x.ver n r rows ∙ ap (λ b. cond b (Some r.1) (pair_at x.ver n rows)) (other r.0.0 r.0.1 n x.ver p) ∙ h.open_pair;
          is = h.is;
          lowest = λ w k. look_at w n r rows ∙ ap (λ b. cond b (Some r.1) (pair_at w n rows)) (other r.0.0 r.0.1 n w p) ∙ h.lowest w k;
        }

-- an open pair of whose lease no lower version is open is the first of its lease
pub is_head : (n v : ℕ) (p : OpenPair) (rows : Rows) → Ascends rows → pair_at v n rows ≡ Some p → ((w : ℕ) → w < v → pair_at w n rows ≡ None) → head_try n rows ≡ Some (try_of ((n, v), p))
is_head n v p rows s e low = one (head_try n rows) refl
  where
    one : (o : Option NextTry) → head_try n rows ≡ o → head_try n rows ≡ Some (try_of ((n, v), p))
    one None k = absurd (none_some (sym (no_head n rows k v) ∙ e))
      where
        none_some : ◌≡◌ {A = Option OpenPair} None (Some p) → ⊥
        none_some z = cc
    one (Some x) k =
        let h = head_is n rows x s k in
        k ∙ ap (λ z. Some z) (by_order h (cases_order x.ver v))
      where
        by_order : IsHead n rows x → (x.ver ≡ v) ⊎ ((x.ver < v) ⊎ (v < x.ver)) → x ≡ try_of ((n, v), p)
        by_order h (inl q) =
            let same_pair : h.pair ≡ p = some_same (sym h.open_pair ∙ ap (λ z. pair_at z n rows) q ∙ e) in
            h.is ∙ ap (λ z. try_of ((n, z), h.pair)) q ∙ ap (λ z. try_of ((n, v), z)) same_pair
          where
            some_same : Some h.pair ≡ Some p → h.pair ≡ p
            some_same z = cc
        by_order h (inr (inl q)) = absurd (none_some (sym (low x.ver q) ∙ h.open_pair))
          where
            none_some : None ≡ Some h.pair → ⊥
            none_some z = cc
        by_order h (inr (inr q)) = absurd (none_some (sym (h.lowest v q) ∙ e))
          where
            none_some : None ≡ Some p → ⊥
            none_some z = cc

-- where no pair of a lease changes, its first one doesn't
pub same_head : (n : ℕ) (old new : Rows) → Ascends old → Ascends new → ((v : ℕ) → pair_at v n new ≡ pair_at v n old) → head_try n new ≡ head_try n old
same_head n old new s s' f = one (head_try n new) refl
  where
    one : (o : Option NextTry) → head_try n new ≡ o → head_try n new ≡ head_try n old
    one (Some x) k =
        let h = head_is n new x s' k in
        k ∙ ap (λ z. Some z) h.is ∙ sym (is_head n x.ver h.pair old s (sym (f x.ver) ∙ h.open_pair) (λ w q. sym (f w) ∙ h.lowest w q))
    one None k = two (head_try n old) refl
      where
        two : (o : Option NextTry) → head_try n old ≡ o → head_try n new ≡ head_try n old
        two None q = k ∙ sym q
        two (Some x) q =
            let h = head_is n old x s q in
            absurd (none_some h.pair (sym (no_head n new k x.ver) ∙ f x.ver ∙ h.open_pair))
          where
            none_some : (p : OpenPair) → None ≡ Some p → ⊥
            none_some p z = cc

-- ---- the first row from a lease on

abbrev pub is_from : ℕ → (ℕ × ℕ) × OpenPair → Bool
is_from n e = is_le (pair_order (n, 0) e.0) && true

from_test : (n m u : ℕ) → (is_le (pair_order (n, 0) (m, u)) && true) ≡ nat_le n m
from_test n m u = grind (arith, nat_tests)

none_later : (n m u : ℕ) → n < m → (rows : Rows) → AllByRecursion (λ (d : (ℕ × ℕ) × OpenPair). (nat_lt m d.0.0 || ((m == d.0.0) && nat_lt u d.0.1)) ≡ true) rows → head_try n rows ≡ None
none_later n m u l [] a = refl
none_later n m u l (e ∷ rows) a = ap (λ b. cond b (Some (try_of e)) (head_try n rows)) (apart n m u e.0.0 e.0.1 l a.0) ∙ none_later n m u l rows a.1
  where
    apart : (n m u x y : ℕ) → n < m → (nat_lt m x || ((m == x) && nat_lt u y)) ≡ true → (x == n) ≡ false
    apart n m u x y l k = grind (arith, nat_tests)

above : (n m : ℕ) → nat_le n m ≡ true → (m == n) ≡ false → n < m
above n m p q = grind (arith, nat_tests)

below : (n m : ℕ) → nat_le n m ≡ false → (m == n) ≡ false
below n m p = grind (arith, nat_tests)

pub first_at : (n : ℕ) (rows rest : Rows) (e : (ℕ × ℕ) × OpenPair) → Ascends rows → filter (is_from n) rows ≡ e ∷ rest → head_try n rows ≡ cond (is_of_lease n e) (Some (try_of e)) None
first_at n [] rest e s k = absurd (cc)
first_at n (r ∷ rows) rest e s k = one (is_from n r) refl k (first_at n rows rest e s.1)
  where
    here : (b : Bool) → is_of_lease n r ≡ b → nat_le n r.0.0 ≡ true → cond b (Some (try_of r)) (head_try n rows) ≡ cond b (Some (try_of r)) None
    here true q p = refl
    here false q p = none_later n r.0.0 r.0.1 (above n r.0.0 p q) rows s.0

    one : (b : Bool) → is_from n r ≡ b → cond b (r ∷ filter (is_from n) rows) (filter (is_from n) rows) ≡ e ∷ rest
        → (filter (is_from n) rows ≡ e ∷ rest → head_try n rows ≡ cond (is_of_lease n e) (Some (try_of e)) None) → head_try n (r ∷ rows) ≡ cond (is_of_lease n e) (Some (try_of e)) None
    one true p k f = let q : r ≡ e = cc in here (is_of_lease n r) refl (sym (from_test n r.0.0 r.0.1) ∙ p) ∙ ap (λ z. cond (is_of_lease n z) (Some (try_of z)) None) q
    one false p k f = ap (λ b. cond b (Some (try_of r)) (head_try n rows)) (below n r.0.0 (sym (from_test n r.0.0 r.0.1) ∙ p)) ∙ f k

pub none_at : (n : ℕ) (rows : Rows) → filter (is_from n) rows ≡ [] → head_try n rows ≡ None
none_at n [] k = refl
none_at n (r ∷ rows) k = one (is_from n r) refl k (none_at n rows)
  where
    one : (b : Bool) → is_from n r ≡ b → cond b (r ∷ filter (is_from n) rows) (filter (is_from n) rows) ≡ [] → (filter (is_from n) rows ≡ [] → head_try n rows ≡ None) → head_try n (r ∷ rows) ≡ None
    one true p k f = absurd (cc)
    one false p k f = ap (λ b. cond b (Some (try_of r)) (head_try n rows)) (below n r.0.0 (sym (from_test n r.0.0 r.0.1) ∙ p)) ∙ f k

-- ---- a change at one key

pub looks_by_key : (old new : Rows) (ver lease : ℕ) (x : Option OpenPair) → ((q : ℕ × ℕ) → lookup (is_at (pair_order q)) new ≡ cond (is_at (pair_order (lease, ver)) q) x (lookup (is_at (pair_order q)) old))
    → (v n : ℕ) → pair_at v n new ≡ cond (is_here ver lease v n) x (pair_at v n old)
looks_by_key old new ver lease x f v n = f (n, v) ∙ ap (λ b. cond b x (pair_at v n old)) (key_test lease ver n v)

pub no_pair : (P : OpenPair → Type 0) (n v : ℕ) (rows : Rows) → head_try n rows ≡ None → IsSomeAnd (pair_at v n rows) P → ⊥
no_pair P n v rows e k = subst (λ o. IsSomeAnd o P) (no_head n rows e v) k

pub no_some_pair : (n v : ℕ) (rows : Rows) → head_try n rows ≡ None → IsSome (pair_at v n rows) → ⊥
no_some_pair n v rows e k = false≢true (sym (ap is_some (no_head n rows e v)) ∙ k)

-- the first pair of a lease is open
pub head_open : (n : ℕ) (rows : Rows) (x : NextTry) → IsStrictlySortedBy pair_order (keys_of rows) → head_try n rows ≡ Some x → IsSome (pair_at x.ver n rows)
head_open n rows x s e = ap is_some (head_is n rows x (ascends rows s) e).open_pair

pub is_eq : (a b : ℕ) → a ≡ b → (a == b) ≡ true
is_eq a b p = grind (arith, nat_tests)

pub is_ne : (a b : ℕ) → (a ≡ b → ⊥) → (a == b) ≡ false
is_ne a b p = by (a == b) refl
  where
    same : (a == b) ≡ true → a ≡ b
    same k = grind (arith, nat_tests)

    by : (c : Bool) → (a == b) ≡ c → c ≡ false
    by true k = absurd (p (same k))
    by false k = refl

-- ---- the pairs of a lease that are closed

pub closed_look : (lease v n : ℕ) (new old : Rows) → ((w : ℕ) → pair_at w lease new ≡ None) → ((w m : ℕ) → (lease == m) ≡ false → pair_at w m new ≡ pair_at w m old) → pair_at v n new ≡ cond (lease == n) None (pair_at v n old)
closed_look lease v n new old f g = by (lease == n) refl
  where
    eq : (lease == n) ≡ true → lease ≡ n
    eq k = grind (arith, nat_tests)

    by : (b : Bool) → (lease == n) ≡ b → pair_at v n new ≡ cond b None (pair_at v n old)
    by true k = ap (λ z. pair_at v z new) (sym (eq k)) ∙ f v
    by false k = g v n k

-- ---- how many pairs of a lease are open

pub removed_count : (f : (ℕ × ℕ) × OpenPair → Bool) (v n : ℕ) (p : OpenPair) (rows : Rows) → pair_at v n rows ≡ Some p → length (filter f (remove_entry (is_at (pair_order (n, v))) rows)) + cond (f ((n, v), p)) 1 0 ≡ length (filter f rows)
removed_count f v n p [] e = absurd (cc)
removed_count f v n p (r ∷ rows) e = one (is_at (pair_order (n, v)) r.0) refl e (removed_count f v n p rows)
  where
    key : (m u : ℕ) → is_at (pair_order (n, v)) (m, u) ≡ true → (m ≡ n) × (u ≡ v)
    key m u k = both m u (sym (key_test n v m u) ∙ k)
      where
        both : (m u : ℕ) → ((n == m) && (v == u)) ≡ true → (m ≡ n) × (u ≡ v)
        both m u k = (grind (arith, nat_tests), grind (arith, nat_tests))

    count : (b : Bool) (e : (ℕ × ℕ) × OpenPair) (xs ys : Rows) (k : ℕ) → length xs + k ≡ length ys → length (cond b (e ∷ xs) xs) + k ≡ length (cond b (e ∷ ys) ys)
    count true e xs ys k q = omega arith
    count false e xs ys k q = q

    some_is : Some r.1 ≡ Some p → r.1 ≡ p
    some_is z = cc

    here : (b : Bool) → length (filter f rows) + cond b 1 0 ≡ length (cond b (r ∷ filter f rows) (filter f rows))
    here true = omega arith
    here false = omega arith

    one : (b : Bool) → is_at (pair_order (n, v)) r.0 ≡ b → cond b (Some r.1) (pair_at v n rows) ≡ Some p → (pair_at v n rows ≡ Some p → length (filter f (remove_entry (is_at (pair_order (n, v))) rows)) + cond (f ((n, v), p)) 1 0 ≡ length (filter f rows))
        → length (filter f (cond b rows (r ∷ remove_entry (is_at (pair_order (n, v))) rows))) + cond (f ((n, v), p)) 1 0 ≡ length (filter f (r ∷ rows))
    one true k e g =
        let q = key r.0.0 r.0.1 k in
        let same : r ≡ ((n, v), p) = λ j. ((q.0 j, q.1 j), some_is e j) in
        subst (λ z. length (filter f rows) + cond (f z) 1 0 ≡ length (cond (f r) (r ∷ filter f rows) (filter f rows))) same (here (f r))
    one false k e g = count (f r) r _ _ (cond (f ((n, v), p)) 1 0) (g e)

pub removed_number_of : (v n : ℕ) (rows : Rows) → IsSome (pair_at v n rows) → number_of n (remove_entry (is_at (pair_order (n, v))) rows) + 1 ≡ number_of n rows
removed_number_of v n rows k = by (pair_at v n rows) refl k
  where
    self : (n == n) ≡ true
    self = grind (arith, nat_tests)

    by : (o : Option OpenPair) → pair_at v n rows ≡ o → IsSome o → number_of n (remove_entry (is_at (pair_order (n, v))) rows) + 1 ≡ number_of n rows
    by None e k = absurd (false≢true k)
    by (Some p) e k = ap (λ b. number_of n (remove_entry (is_at (pair_order (n, v))) rows) + cond b 1 0) (sym self) ∙ removed_count (is_of_lease n) v n p rows e

pub none_number : (n : ℕ) (rows : Rows) → head_try n rows ≡ None → number_of n rows ≡ 0
none_number n [] e = refl
none_number n (r ∷ rows) e = one (is_of_lease n r) e (none_number n rows)
  where
    one : (b : Bool) → cond b (Some (try_of r)) (head_try n rows) ≡ None → (head_try n rows ≡ None → number_of n rows ≡ 0) → length (cond b (r ∷ filter (is_of_lease n) rows) (filter (is_of_lease n) rows)) ≡ 0
    one true e f = absurd (cc)
    one false e f = f e

-- ---- the next open version of a lease

abbrev pub is_after : ℕ → ℕ → (ℕ × ℕ) × OpenPair → Bool
is_after n v e = is_lt (pair_order (n, v) e.0) && true

after_test : (n v m u : ℕ) → (is_lt (pair_order (n, v) (m, u)) && true) ≡ (nat_lt n m || ((n == m) && nat_lt v u))
after_test n v m u = grind (arith, nat_tests)

-- an entry that isn't behind a version is at no higher one
not_higher : (n v m u w : ℕ) → (nat_lt n m || ((n == m) && nat_lt v u)) ≡ false → v < w → ((n == m) && (w == u)) ≡ false
not_higher n v m u w p k = grind (arith, nat_tests)

look_past : (n v w : ℕ) (e : (ℕ × ℕ) × OpenPair) (rows : Rows) → is_after n v e ≡ false → v < w → pair_at w n (e ∷ rows) ≡ pair_at w n rows
look_past n v w e rows p k = look_at w n e rows ∙ ap (λ b. cond b (Some e.1) (pair_at w n rows)) (not_higher n v e.0.0 e.0.1 w (sym (after_test n v e.0.0 e.0.1) ∙ p) k)

next_past : (n v : ℕ) (e : (ℕ × ℕ) × OpenPair) (rows : Rows) → is_after n v e ≡ false → (o : Option ℕ) → IsNextOpen v n rows o → IsNextOpen v n (e ∷ rows) o
next_past n v e rows p None f = λ w k. look_past n v w e rows p k ∙ f w k
next_past n v e rows p (Some u) f = (f.0, ap is_some (look_past n v u e rows p f.0) ∙ f.1, λ w k l. look_past n v w e rows p k ∙ f.2 w k l)

-- none of a lease is open before the first entry
none_before : (n w : ℕ) (e : (ℕ × ℕ) × OpenPair) (rows : Rows) → Ascends (e ∷ rows) → (nat_lt n e.0.0 || ((n == e.0.0) && nat_lt w e.0.1)) ≡ true → pair_at w n (e ∷ rows) ≡ None
none_before n w e rows s k = look_at w n e rows ∙ ap (λ b. cond b (Some e.1) (pair_at w n rows)) (apart n w e.0.0 e.0.1 k) ∙ none_below e.0.0 e.0.1 w n k rows s.0
  where
    apart : (n w m u : ℕ) → (nat_lt n m || ((n == m) && nat_lt w u)) ≡ true → ((n == m) && (w == u)) ≡ false
    apart n w m u k = grind (arith, nat_tests)

-- the version of an entry, where it is of this lease
abbrev pub version_in : ℕ → (ℕ × ℕ) × OpenPair → Option ℕ
version_in n e = cond (e.0.0 == n) (Some e.0.1) None

next_first : (n v : ℕ) (e : (ℕ × ℕ) × OpenPair) (rows : Rows) → Ascends (e ∷ rows) → (nat_lt n e.0.0 || ((n == e.0.0) && nat_lt v e.0.1)) ≡ true → IsNextOpen v n (e ∷ rows) (version_in n e)
next_first n v e rows s k = by (e.0.0 == n) refl
  where
    above : (n v m u : ℕ) → (nat_lt n m || ((n == m) && nat_lt v u)) ≡ true → (m == n) ≡ true → v < u
    above n v m u k q = grind (arith, nat_tests)

    here : (n m u : ℕ) → (m == n) ≡ true → ((n == m) && (u == u)) ≡ true
    here n m u q = grind (arith, nat_tests)

    between : (n w m u : ℕ) → (m == n) ≡ true → w < u → (nat_lt n m || ((n == m) && nat_lt w u)) ≡ true
    between n w m u q l = grind (arith, nat_tests)

    later : (n v w m u : ℕ) → (nat_lt n m || ((n == m) && nat_lt v u)) ≡ true → (m == n) ≡ false → (nat_lt n m || ((n == m) && nat_lt w u)) ≡ true
    later n v w m u k q = grind (arith, nat_tests)

    by : (b : Bool) → (e.0.0 == n) ≡ b → IsNextOpen v n (e ∷ rows) (cond b (Some e.0.1) None)
    by true q = (above n v e.0.0 e.0.1 k q, ap is_some (look_at e.0.1 n e rows ∙ ap (λ b. cond b (Some e.1) (pair_at e.0.1 n rows)) (here n e.0.0 e.0.1 q)), λ w l m. none_before n w e rows s (between n w e.0.0 e.0.1 q m))
    by false q = λ w l. none_before n w e rows s (later n v w e.0.0 e.0.1 k q)

pub next_at : (n v : ℕ) (rows rest : Rows) (e : (ℕ × ℕ) × OpenPair) → Ascends rows → filter (is_after n v) rows ≡ e ∷ rest → IsNextOpen v n rows (version_in n e)
next_at n v [] rest e s k = absurd (cc)
next_at n v (r ∷ rows) rest e s k = one (is_after n v r) refl k (next_at n v rows rest e s.1)
  where
    one : (b : Bool) → is_after n v r ≡ b → cond b (r ∷ filter (is_after n v) rows) (filter (is_after n v) rows) ≡ e ∷ rest → (filter (is_after n v) rows ≡ e ∷ rest → IsNextOpen v n rows (version_in n e)) → IsNextOpen v n (r ∷ rows) (version_in n e)
    one true p k f = let q : r ≡ e = cc in subst (λ z. IsNextOpen v n (r ∷ rows) (version_in n z)) q (next_first n v r rows s (sym (after_test n v r.0.0 r.0.1) ∙ p))
    one false p k f = next_past n v r rows p (version_in n e) (f k)

pub none_after : (n v : ℕ) (rows : Rows) → filter (is_after n v) rows ≡ [] → (w : ℕ) → v < w → pair_at w n rows ≡ None
none_after n v [] k w l = refl
none_after n v (r ∷ rows) k w l = one (is_after n v r) refl k (λ m. none_after n v rows m w l)
  where
    one : (b : Bool) → is_after n v r ≡ b → cond b (r ∷ filter (is_after n v) rows) (filter (is_after n v) rows) ≡ [] → (filter (is_after n v) rows ≡ [] → pair_at w n rows ≡ None) → pair_at w n (r ∷ rows) ≡ None
    one true p k f = absurd (cc)
    one false p k f = look_past n v w r rows p l ∙ f k

-- ---- rows with the same pairs are the same

pub same_rows : (es fs : Rows) → Ascends es → Ascends fs → ((v n : ℕ) → pair_at v n es ≡ pair_at v n fs) → es ≡ fs
same_rows [] [] s u f = refl
same_rows [] (r ∷ fs) s u f = absurd (nothing_there r fs (f r.0.1 r.0.0))
  where
    here : (m u : ℕ) → ((m == m) && (u == u)) ≡ true
    here m u = grind (arith, nat_tests)

    nothing_there : (r : (ℕ × ℕ) × OpenPair) (fs : Rows) → None ≡ pair_at r.0.1 r.0.0 (r ∷ fs) → ⊥
    nothing_there r fs k = let q : ◌≡◌ {A = Option OpenPair} None (Some r.1) = k ∙ look_at r.0.1 r.0.0 r fs ∙ ap (λ b. cond b (Some r.1) (pair_at r.0.1 r.0.0 fs)) (here r.0.0 r.0.1) in cc
same_rows (e ∷ es) [] s u f = absurd (nothing_there e es (f e.0.1 e.0.0))
  where
    here : (m u : ℕ) → ((m == m) && (u == u)) ≡ true
    here m u = grind (arith, nat_tests)

    nothing_there : (r : (ℕ × ℕ) × OpenPair) (fs : Rows) → pair_at r.0.1 r.0.0 (r ∷ fs) ≡ None → ⊥
    nothing_there r fs k = let q : ◌≡◌ {A = Option OpenPair} None (Some r.1) = sym k ∙ look_at r.0.1 r.0.0 r fs ∙ ap (λ b. cond b (Some r.1) (pair_at r.0.1 r.0.0 fs)) (here r.0.0 r.0.1) in cc
same_rows (e ∷ es) (r ∷ fs) s u f = by_order (nat_lt e.0.0 r.0.0 || ((e.0.0 == r.0.0) && nat_lt e.0.1 r.0.1)) refl (nat_lt r.0.0 e.0.0 || ((r.0.0 == e.0.0) && nat_lt r.0.1 e.0.1)) refl (same_rows es fs s.1 u.1)
  where
    here : (m u : ℕ) → ((m == m) && (u == u)) ≡ true
    here m u = grind (arith, nat_tests)

    at_head : (x : (ℕ × ℕ) × OpenPair) (xs : Rows) → pair_at x.0.1 x.0.0 (x ∷ xs) ≡ Some x.1
    at_head x xs = look_at x.0.1 x.0.0 x xs ∙ ap (λ b. cond b (Some x.1) (pair_at x.0.1 x.0.0 xs)) (here x.0.0 x.0.1)

    none_some : (p : OpenPair) → ◌≡◌ {A = Option OpenPair} None (Some p) → ⊥
    none_some p z = cc

    some_same : (p q : OpenPair) → Some p ≡ Some q → p ≡ q
    some_same p q z = cc

    equal : (a b c d : ℕ) → (nat_lt a c || ((a == c) && nat_lt b d)) ≡ false → (nat_lt c a || ((c == a) && nat_lt d b)) ≡ false → (a ≡ c) × (b ≡ d)
    equal a b c d p q = (grind (arith, nat_tests), grind (arith, nat_tests))

    tails : e ≡ r → (v n : ℕ) → pair_at v n es ≡ pair_at v n fs
    tails q v n = one (is_here v n e.0.1 e.0.0) refl (sym (look_at v n e es) ∙ f v n ∙ look_at v n r fs ∙ ap (λ (z : (ℕ × ℕ) × OpenPair). cond (is_here v n z.0.1 z.0.0) (Some z.1) (pair_at v n fs)) (sym q))
      where
        eqs : (n m v w : ℕ) → ((n == m) && (v == w)) ≡ true → (m ≡ n) × (w ≡ v)
        eqs n m v w k = (grind (arith, nat_tests), grind (arith, nat_tests))

        lower : (m w n v a b : ℕ) → m ≡ n → w ≡ v → (nat_lt m a || ((m == a) && nat_lt w b)) ≡ true → ((n == a) && (v == b)) ≡ false
        lower m w n v a b p q k = grind (arith, nat_tests)

        none_in : (m w : ℕ) → m ≡ n → w ≡ v → (rows : Rows) → AllByRecursion (λ (d : (ℕ × ℕ) × OpenPair). (nat_lt m d.0.0 || ((m == d.0.0) && nat_lt w d.0.1)) ≡ true) rows → pair_at v n rows ≡ None
        none_in m w p q [] a = refl
        none_in m w p q (x ∷ rows) a = look_at v n x rows ∙ ap (λ b. cond b (Some x.1) (pair_at v n rows)) (lower m w n v x.0.0 x.0.1 p q a.0) ∙ none_in m w p q rows a.1

        one : (b : Bool) → is_here v n e.0.1 e.0.0 ≡ b → cond b (Some e.1) (pair_at v n es) ≡ cond b (Some e.1) (pair_at v n fs) → pair_at v n es ≡ pair_at v n fs
        one true k g =
            let a = eqs n e.0.0 v e.0.1 k in
            none_in e.0.0 e.0.1 a.0 a.1 es s.0 ∙ sym (none_in r.0.0 r.0.1 (sym (ap (λ (z : (ℕ × ℕ) × OpenPair). z.0.0) q) ∙ a.0) (sym (ap (λ (z : (ℕ × ℕ) × OpenPair). z.0.1) q) ∙ a.1) fs u.0)
        one false k g = g

    by_order : (b : Bool) → (nat_lt e.0.0 r.0.0 || ((e.0.0 == r.0.0) && nat_lt e.0.1 r.0.1)) ≡ b → (c : Bool) → (nat_lt r.0.0 e.0.0 || ((r.0.0 == e.0.0) && nat_lt r.0.1 e.0.1)) ≡ c → (((v n : ℕ) → pair_at v n es ≡ pair_at v n fs) → es ≡ fs) → e ∷ es ≡ r ∷ fs
    by_order true p c q g = absurd (none_some e.1 (sym (none_before e.0.0 e.0.1 r fs u p) ∙ sym (f e.0.1 e.0.0) ∙ at_head e es))
    by_order false p true q g = absurd (none_some r.1 (sym (none_before r.0.0 r.0.1 e es s q) ∙ f r.0.1 r.0.0 ∙ at_head r fs))
    by_order false p false q g =
        let k = equal e.0.0 e.0.1 r.0.0 r.0.1 p q in
        let v : e.1 ≡ r.1 = some_same e.1 r.1 (sym (at_head e es) ∙ f e.0.1 e.0.0 ∙ (λ j. pair_at (k.1 j) (k.0 j) (r ∷ fs)) ∙ at_head r fs) in
        let same : e ≡ r = λ j. ((k.0 j, k.1 j), v j) in
        (λ j. same j ∷ g (tails same) j)

-- ---- one more open pair

pub inserted_count : (f : (ℕ × ℕ) × OpenPair → Bool) (v n : ℕ) (p : OpenPair) (rows : Rows) → pair_at v n rows ≡ None → length (filter f (insert_entry pair_order rows (n, v) p)) ≡ length (filter f rows) + cond (f ((n, v), p)) 1 0
inserted_count f v n p [] e = by (f ((n, v), p)) ((n, v), p)
  where
    by : (b : Bool) (x : (ℕ × ℕ) × OpenPair) → length (cond b (x ∷ []) []) ≡ 0 + cond b 1 0
    by true x = omega arith
    by false x = omega arith
inserted_count f v n p (r ∷ rows) e = by (pair_order (n, v) r.0) e (inserted_count f v n p rows)
  where
    longer : (b : Bool) (x : (ℕ × ℕ) × OpenPair) (xs : Rows) → length (cond b (x ∷ xs) xs) ≡ length xs + cond b 1 0
    longer true x xs = omega arith
    longer false x xs = omega arith

    both : (b : Bool) (x : (ℕ × ℕ) × OpenPair) (xs ys : Rows) (k : ℕ) → length ys ≡ length xs + k → length (cond b (x ∷ ys) ys) ≡ length (cond b (x ∷ xs) xs) + k
    both true x xs ys k q = omega arith
    both false x xs ys k q = q

    by : (o : Ordering) → cond (is_order_eq o) (Some r.1) (pair_at v n rows) ≡ None → (pair_at v n rows ≡ None → length (filter f (insert_entry pair_order rows (n, v) p)) ≡ length (filter f rows) + cond (f ((n, v), p)) 1 0)
        → length (filter f (match_ordering o (((n, v), p) ∷ r ∷ rows) ((r.0, p) ∷ rows) (r ∷ insert_entry pair_order rows (n, v) p))) ≡ length (filter f (r ∷ rows)) + cond (f ((n, v), p)) 1 0
    by Less e g = longer (f ((n, v), p)) ((n, v), p) (filter f (r ∷ rows))
    by Equal e g = absurd (cc)
    by Greater e g = both (f r) r (filter f rows) (filter f (insert_entry pair_order rows (n, v) p)) (cond (f ((n, v), p)) 1 0) (g e)
