-- What the table answers, for a history for which it stands.
use Rattle.std.proofs.Common.{Bor, ◌≡◌, ℕ, ◌≤◌, ◌<◌, ◌^◌, Bool, true, false, cond, ◌&&◌, List, [], ◌∷◌, refl, ap, sym, ◌∙◌, subst, length, arith}
use Rattle.std.specs.Prelude.{nat_lt, nat_le, is_some, Option, Some, None, IfSome, IsSomeAnd, map, filter, find, option_map, ◌==◌, bytes_eq}
use Rattle.std.specs.List.{AllByRecursion, list_any, IsDistinct}
use Rattle.std.specs.List.Sorted.{IsStrictlySortedBy}
use Rattle.std.specs.Option.{option_copied}
use Rattle.std.specs.Map.{lookup, keys_of}
use Rattle.std.specs.BTreeMap.{BTreeMap, get, is_at}
use Rattle.std.specs.Ordering.{nat_cmp, eq_by_cmp}
use Rattle.std.specs.Cmp.{nat_cmp_total, IsTotalOrder}
use Rattle.std.specs.declared.cmp.Ordering.TheVariants.{Less}
use Rattle.std.proofs.lemmas.Bool.Decides.{nat_tests}
use Rattle.std.proofs.lemmas.Bool.{false≢true, eqb-true, and_from, and_parts}
use Rattle.std.proofs.lemmas.Slice.Eq.{bytes_eq-Decides}
use Rattle.std.proofs.lemmas.Cmp.{eq_by_cmp_equiv, then_total}
use Rattle.std.proofs.lemmas.List.{length-map}
use Rattle.std.proofs.lemmas.Map.Made.{length-from_same_keys}
use Rattle.std.proofs.lemmas.Map.Keys.{IsDistinct-from_sorted}
use Rattle.std.proofs.lemmas.Map.Views.{All-found}
use Rattle.std.proofs.lemmas.List.Elements.{recursion_from_All}
use Rattle.std.proofs.lemmas.List.Kept.{IsStrictlySortedBy-filter}
use Rattle.ws_model.specs.declared.lease.Lease.{Lease}
use Rattle.ws_model.specs.Leases.{expiry}
use Rattle.ws_model.specs.Revocation.{is_lease_of}
use Rattle.ws_laws.proofs.ListLaws.{all_weaker, all_find, all_from}
use Rattle.ws_laws.proofs.Follow.{some_found}
use Rattle.ws_lease.specs.Indexed.{IsIndexed, IsPair, still_live, is_live_at, end_of, end_in, ends_at, end_order, FirstEnd}
use Rattle.ws_lease.specs.Unexpired.{unexpired_numbers}
use Rattle.ws_lease.specs.Table.{Rows, lease_at, live_at, unexpired, live_numbers, live_rows, IsFirstExpired}
use Rattle.ws_lease.specs.Stands.{is_numbered, AreNumbersOf}
use Rattle.ws_lease.proofs.IndexedRows.{at_some, number_is_itself, numbers_turned}
use Rattle.ws_lease.proofs.Ends.{at_pair}
use Rattle.ws_lease.proofs.ByteKeys.{bytes_from_eq}
use Rattle.ws_lease.proofs.SortedEntries.{passes, sorted_where, any_number, any_map, any_same, any_filter, any_entry, same_numbers}
use Rattle.ws_lease.proofs.Standing.{AreNumberedApart, when, find_where, found_by_number, none_passes, bytes_turned}

-- ---- the lease of a topic and a callback

-- a lease that hasn't expired is held
live_held : (t : ℕ) (o : Option Lease) (x : Lease) → unexpired t o ≡ Some x → (o ≡ Some x) × (nat_lt t (expiry x) ≡ true)
live_held t None x e = absurd (grind arith)
live_held t (Some y) x e = one (nat_lt t (expiry y)) refl e
  where
    one : (b : Bool) → nat_lt t (expiry y) ≡ b → cond b (Some y) None ≡ Some x → (◌≡◌ {A = Option Lease} (Some y) (Some x)) × (nat_lt t (expiry x) ≡ true)
    one true k r = (r, let s : y ≡ x = cc in subst (λ z. nat_lt t (expiry z) ≡ true) s k)
    one false k r = absurd (grind arith)

pair_test : (a b : List ℕ) (l : Lease) → IsPair a b l → is_lease_of a b l ≡ true
pair_test a b l p = and_from _ _ ((bytes_eq-Decides l.intent.topic a).1 p.0) ((bytes_eq-Decides l.intent.callback b).1 p.1)

module _ (rows : Rows) (pairs : List ℕ → List ℕ → Option ℕ) (topics : List ℕ → ℕ → Option ℕ) (ends : ℕ → ℕ → Bool) (i : IsIndexed rows pairs topics ends)
    (t : ℕ) (ls : List Lease) (apart : AreNumberedApart ls) (shows : (n : ℕ) → live_at n t rows ≡ find (is_numbered n) ls) (a b : List ℕ) where
  -- the live lease is the one that the index has
  there : (x : Lease) → find (is_lease_of a b) ls ≡ Some x → still_live t rows (pairs a b) ≡ Some x.intent.n
  there x e =
      let held = live_held t (lease_at x.intent.n rows) x (shows x.intent.n ∙ found_by_number (is_lease_of a b) x ls apart e) in
      let parts = and_parts (bytes_eq x.intent.topic a) (bytes_eq x.intent.callback b) (all_find (λ _. Unit {0}) (is_lease_of a b) x ls (all_from (λ _. Unit {0}) (λ _. tt) ls) e).1 in
      let own : pairs x.intent.topic x.intent.callback ≡ Some x.intent.n = at_some (λ y. pairs y.intent.topic y.intent.callback ≡ Some x.intent.n) (lease_at x.intent.n rows) x held.0 (i.listed x.intent.n) in
      let here : pairs a b ≡ Some x.intent.n = subst (λ z. pairs z b ≡ Some x.intent.n) (bytes_from_eq _ _ parts.0) (subst (λ z. pairs x.intent.topic z ≡ Some x.intent.n) (bytes_from_eq _ _ parts.1) own) in
      ap (still_live t rows) here
      ∙ ap (λ o. cond (is_live_at t o) (Some x.intent.n) None) held.0
      ∙ ap (λ c. cond c (Some x.intent.n) None) held.1

  -- where none is live, the index has none that is
  missing : find (is_lease_of a b) ls ≡ None → (o : Option ℕ) → IfSome o (λ n. IsSomeAnd (lease_at n rows) (IsPair a b)) → still_live t rows o ≡ None
  missing e None k = refl
  missing e (Some n) k = by (lease_at n rows) k (shows n)
    where
      by : (z : Option Lease) → IsSomeAnd z (IsPair a b) → unexpired t z ≡ find (is_numbered n) ls → cond (is_live_at t z) (Some n) None ≡ None
      by None k s = refl
      by (Some l) k s = one (nat_lt t (expiry l)) s
        where
          one : (c : Bool) → cond c (Some l) None ≡ find (is_numbered n) ls → cond c (Some n) None ≡ None
          one true r = absurd (none_passes (is_lease_of a b) n l ls e (sym r) (pair_test a b l k))
          one false r = refl

  pub found_live : still_live t rows (pairs a b) ≡ option_map (λ l. l.intent.n) (find (is_lease_of a b) ls)
  found_live = by (find (is_lease_of a b) ls) refl
    where
      by : (o : Option Lease) → find (is_lease_of a b) ls ≡ o → still_live t rows (pairs a b) ≡ option_map (λ l. l.intent.n) o
      by None e = missing e (pairs a b) (i.found a b)
      by (Some x) e = there x e

-- ---- the leases of a topic, and all leases

some_when : (p : Lease → Bool) (t : ℕ) (o : Option Lease) → passes (λ l. p l && nat_lt t (expiry l)) o ≡ is_some (when p (unexpired t o))
some_when p t None = refl
some_when p t (Some l) = one (p l) refl (nat_lt t (expiry l))
  where
    one : (b : Bool) → p l ≡ b → (c : Bool) → (b && c) ≡ is_some (when p (cond c (Some l) None))
    one true k true = sym (ap (λ b. is_some (cond b (Some l) None)) k)
    one true k false = refl
    one false k true = sym (ap (λ b. is_some (cond b (Some l) None)) k)
    one false k false = refl

module _ (rows : Rows) (sorted : IsStrictlySortedBy nat_cmp (keys_of rows)) (t : ℕ) (ls : List Lease) (apart : AreNumberedApart ls) (shows : (n : ℕ) → live_at n t rows ≡ find (is_numbered n) ls) where
  pub topic_numbers : (topic : List ℕ) → AreNumbersOf (live_numbers topic t rows) (filter (λ l. bytes_eq l.intent.topic topic) ls)
  topic_numbers topic =
      record {
        rising = sorted_where _ rows sorted;
        same = λ n.
            any_number (λ l. bytes_eq l.intent.topic topic && nat_lt t (expiry l)) n rows sorted
            ∙ some_when (λ l. bytes_eq l.intent.topic topic) t (lease_at n rows)
            ∙ ap (λ o. is_some (when (λ l. bytes_eq l.intent.topic topic) o)) (shows n)
            ∙ ap is_some (sym (find_where (λ l. bytes_eq l.intent.topic topic) n ls apart))
            ∙ some_found (is_numbered n) (filter (λ l. bytes_eq l.intent.topic topic) ls);
      }

  numbers_distinct : (ms : List Lease) → AreNumberedApart ms → IsDistinct (eq_by_cmp nat_cmp) (map (λ l. l.intent.n) ms)
  unfolding IsDistinct
  numbers_distinct [] a = tt
  numbers_distinct (m ∷ ms) a = (others ms a.0, numbers_distinct ms a.1)
    where
      turned : (x y : ℕ) → (y == x) ≡ false → eq_by_cmp nat_cmp x y ≡ false
      turned x y k = grind (arith, nat_tests)

      others : (xs : List Lease) → AllByRecursion (λ (x : Lease). (x.intent.n == m.intent.n) ≡ false) xs → AllByRecursion (λ y. eq_by_cmp nat_cmp m.intent.n y ≡ false) (map (λ l. l.intent.n) xs)
      others [] a = tt
      others (x ∷ xs) a = (turned m.intent.n x.intent.n a.0, others xs a.1)

  pub live_count : length (live_rows t rows) ≡ length ls
  live_count =
      sym (length-map {A = ℕ × Lease} (live_rows t rows) (λ e. e.0))
      ∙ length-from_same_keys (eq_by_cmp_equiv nat_cmp_total) (map (λ e. e.0) (live_rows t rows)) (map (λ l. l.intent.n) ls)
      (IsDistinct-from_sorted nat_cmp (keys_of (live_rows t rows)) (sorted_where _ rows sorted)) (numbers_distinct ls apart) member
      ∙ length-map {A = Lease} ls (λ l. l.intent.n)
    where
      eq_is : (q m : ℕ) → eq_by_cmp nat_cmp q m ≡ (m == q)
      eq_is q m = grind (arith, nat_tests)

      member : (q : ℕ) → list_any (eq_by_cmp nat_cmp q) (map (λ e. e.0) (live_rows t rows)) ≡ list_any (eq_by_cmp nat_cmp q) (map (λ l. l.intent.n) ls)
      member q =
          any_same (eq_by_cmp nat_cmp q) (λ m. m == q) (map (λ e. e.0) (live_rows t rows)) (eq_is q)
          ∙ any_number (λ l. nat_lt t (expiry l)) q rows sorted
          ∙ some_when (λ _. true) t (lease_at q rows)
          ∙ ap is_some (all_kept (unexpired t (lease_at q rows)) ∙ shows q)
          ∙ some_found (is_numbered q) ls
          ∙ sym (any_map (λ m. m == q) (λ l. l.intent.n) ls)
          ∙ sym (any_same (eq_by_cmp nat_cmp q) (λ m. m == q) (map (λ l. l.intent.n) ls) (eq_is q))
        where
          all_kept : (o : Option Lease) → when (λ _. true) o ≡ o
          all_kept None = refl
          all_kept (Some l) = refl

-- ---- what the indexes answer

-- a lease is told by its end as by its expiry, at a time that 48 bits can say
end_after : (t : ℕ) (l : Lease) → t < 2 ^ 48 → nat_lt t (end_of l) ≡ nat_lt t (expiry l)
end_after t l k = grind (arith, nat_tests)

pub topic_live : (rows : Rows) → IsStrictlySortedBy nat_cmp (keys_of rows) → (t : ℕ) → t < 2 ^ 48 → (topic : List ℕ) (es : List (ℕ × ℕ)) → IsStrictlySortedBy nat_cmp (keys_of es)
    → ((n : ℕ) → lookup (is_at (nat_cmp n)) es ≡ end_in topic (lease_at n rows)) → unexpired_numbers t es ≡ live_numbers topic t rows
topic_live rows sorted t small topic es rising has =
    same_numbers (unexpired_numbers t es) (live_numbers topic t rows) (sorted_where _ es rising) (sorted_where _ rows sorted)
    (λ n. any_number (nat_lt t) n es rising ∙ ap (passes (nat_lt t)) (has n) ∙ by (lease_at n rows) ∙ sym (any_number (λ l. bytes_eq l.intent.topic topic && nat_lt t (expiry l)) n rows sorted))
  where
    by : (o : Option Lease) → passes (nat_lt t) (end_in topic o) ≡ passes (λ l. bytes_eq l.intent.topic topic && nat_lt t (expiry l)) o
    by None = refl
    by (Some l) = one (bytes_eq topic l.intent.topic) ∙ ap (λ b. b && nat_lt t (expiry l)) (bytes_turned topic l.intent.topic)
      where
        one : (b : Bool) → passes (nat_lt t) (cond b (Some (end_of l)) None) ≡ (b && nat_lt t (expiry l))
        one true = end_after t l small
        one false = refl

pub topic_live_none : (rows : Rows) → IsStrictlySortedBy nat_cmp (keys_of rows) → (t : ℕ) → t < 2 ^ 48 → (topic : List ℕ)
    → ((n : ℕ) → ◌≡◌ {A = Option ℕ} None (end_in topic (lease_at n rows))) → [] ≡ live_numbers topic t rows
unfolding IsStrictlySortedBy
topic_live_none rows sorted t small topic has = topic_live rows sorted t small topic [] tt has

-- ---- the ends of all rows

projected : IsTotalOrder {K = ℕ × ℕ} (λ x y. nat_cmp x.0 y.0)
projected = record { antisymm = λ x y. nat_cmp_total.antisymm x.0 y.0; trans = λ x y z. nat_cmp_total.trans x.0 y.0 z.0; congr = λ x y z. nat_cmp_total.congr x.0 y.0 z.0 }

projected_second : IsTotalOrder {K = ℕ × ℕ} (λ x y. nat_cmp x.1 y.1)
projected_second = record { antisymm = λ x y. nat_cmp_total.antisymm x.1 y.1; trans = λ x y z. nat_cmp_total.trans x.1 y.1 z.1; congr = λ x y z. nat_cmp_total.congr x.1 y.1 z.1 }

end_order_total : IsTotalOrder end_order
end_order_total = then_total projected projected_second

abbrev end_and_number : ℕ × Lease → ℕ × ℕ
end_and_number e = (end_of e.1, e.0)

ends_distinct : (es : Rows) → IsStrictlySortedBy nat_cmp (keys_of es) → IsDistinct (eq_by_cmp end_order) (map end_and_number es)
unfolding IsDistinct IsStrictlySortedBy
ends_distinct [] s = tt
ends_distinct (e ∷ es) s = (others es s.0, ends_distinct es s.1)
  where
    apart : (x y n m : ℕ) → nat_cmp n m ≡ Less → eq_by_cmp end_order (x, n) (y, m) ≡ false
    apart x y n m k = at_pair x n y m ∙ and_not (x == y) (let z : (n == m) ≡ false = grind (arith, nat_tests) in z)
      where
        and_not : (b : Bool) {c : Bool} → c ≡ false → (b && c) ≡ false
        and_not true z = z
        and_not false z = refl

    others : (xs : Rows) → AllByRecursion (λ m. nat_cmp e.0 m ≡ Less) (keys_of xs) → AllByRecursion (λ y. eq_by_cmp end_order (end_and_number e) y ≡ false) (map end_and_number xs)
    others [] a = tt
    others (x ∷ xs) a = (apart (end_of e.1) (end_of x.1) e.0 x.0 a.0, others xs a.1)

pub ends_count : (rows : Rows) → IsStrictlySortedBy nat_cmp (keys_of rows) → (t : ℕ) → t < 2 ^ 48 → (keys : List (ℕ × ℕ)) → IsStrictlySortedBy end_order keys
    → ((x n : ℕ) → list_any (is_at (end_order (x, n))) keys ≡ ends_at x (lease_at n rows)) → length (filter (λ k. nat_lt t k.0) keys) ≡ length (live_rows t rows)
ends_count rows sorted t small keys rising has =
    length-from_same_keys (eq_by_cmp_equiv end_order_total) (filter (λ k. nat_lt t k.0) keys) (map end_and_number (live_rows t rows))
    (IsDistinct-from_sorted end_order (filter (λ k. nat_lt t k.0) keys) (IsStrictlySortedBy-filter end_order (λ k. nat_lt t k.0) keys rising))
    (ends_distinct (live_rows t rows) (sorted_where _ rows sorted))
    (λ q. left q.0 q.1 ∙ by q.0 q.1 (lease_at q.1 rows) ∙ sym (right q.0 q.1))
    ∙ length-map {A = ℕ × Lease} (live_rows t rows) end_and_number
  where
    -- a test beside the end's, which tells the end
    told : (x n : ℕ) (k : ℕ × ℕ) → (nat_lt t k.0 && is_at (end_order (x, n)) k) ≡ (nat_lt t x && is_at (end_order (x, n)) k)
    told x n k = rw (at_pair x n k.0 k.1) (one (x == k.0) refl (n == k.1))
      where
        none : (b : Bool) → (b && false) ≡ false
        none true = refl
        none false = refl

        one : (b : Bool) → (x == k.0) ≡ b → (c : Bool) → (nat_lt t k.0 && (b && c)) ≡ (nat_lt t x && (b && c))
        one true e c = ap (λ z. nat_lt t z && c) (sym (eqb-true x k.0 e))
        one false e c = none (nat_lt t k.0) ∙ sym (none (nat_lt t x))

    any_and : (b : Bool) (q : ℕ × ℕ → Bool) (ks : List (ℕ × ℕ)) → list_any (λ k. b && q k) ks ≡ (b && list_any q ks)
    any_and true q ks = any_same (λ k. true && q k) q ks (λ k. refl)
    any_and false q [] = refl
    any_and false q (k ∷ ks) = any_and false q ks

    left : (x n : ℕ) → list_any (is_at (end_order (x, n))) (filter (λ k. nat_lt t k.0) keys) ≡ (nat_lt t x && ends_at x (lease_at n rows))
    left x n =
        any_filter (is_at (end_order (x, n))) (λ k. nat_lt t k.0) keys
        ∙ any_same (λ k. nat_lt t k.0 && is_at (end_order (x, n)) k) (λ k. nat_lt t x && is_at (end_order (x, n)) k) keys (told x n)
        ∙ any_and (nat_lt t x) (is_at (end_order (x, n))) keys
        ∙ ap (λ b. nat_lt t x && b) (has x n)

    turned : (x n : ℕ) (e : ℕ × Lease) → (nat_lt t (expiry e.1) && is_at (end_order (x, n)) (end_and_number e)) ≡ ((nat_lt t (expiry e.1) && (x == end_of e.1)) && (e.0 == n))
    turned x n e = rw (at_pair x n (end_of e.1) e.0, numbers_turned n e.0) (assoc (nat_lt t (expiry e.1)) (x == end_of e.1) (e.0 == n))
      where
        assoc : (a b c : Bool) → (a && (b && c)) ≡ ((a && b) && c)
        assoc true b c = refl
        assoc false b c = refl

    right : (x n : ℕ) → list_any (is_at (end_order (x, n))) (map end_and_number (live_rows t rows)) ≡ passes (λ l. nat_lt t (expiry l) && (x == end_of l)) (lease_at n rows)
    right x n =
        any_map (is_at (end_order (x, n))) end_and_number (live_rows t rows)
        ∙ any_filter (λ e. is_at (end_order (x, n)) (end_and_number e)) (λ e. nat_lt t (expiry e.1)) rows
        ∙ any_same (λ e. nat_lt t (expiry e.1) && is_at (end_order (x, n)) (end_and_number e)) (λ e. (nat_lt t (expiry e.1) && (x == end_of e.1)) && (e.0 == n)) rows (turned x n)
        ∙ any_entry (λ l. nat_lt t (expiry l) && (x == end_of l)) n rows sorted

    by : (x n : ℕ) (o : Option Lease) → (nat_lt t x && ends_at x o) ≡ passes (λ l. nat_lt t (expiry l) && (x == end_of l)) o
    by x n None = none (nat_lt t x)
      where
        none : (b : Bool) → (b && false) ≡ false
        none true = refl
        none false = refl
    by x n (Some l) = one (end_of l == x) refl
      where
        none : (b : Bool) → (b && false) ≡ false
        none true = refl
        none false = refl

        one : (b : Bool) → (end_of l == x) ≡ b → (nat_lt t x && b) ≡ (nat_lt t (expiry l) && (x == end_of l))
        one true e =
            ap (λ z. nat_lt t z && true) (sym (eqb-true (end_of l) x e)) ∙ ap (λ b. b && true) (end_after t l small)
            ∙ ap (λ b. nat_lt t (expiry l) && b) (sym (numbers_turned x (end_of l) ∙ e))
        one false e = none (nat_lt t x) ∙ sym (ap (λ b. nat_lt t (expiry l) && b) (numbers_turned x (end_of l) ∙ e) ∙ none (nat_lt t (expiry l)))

-- ---- the first to expire

pub row_ends : (m : BTreeMap ℕ Lease) (pairs : List ℕ → List ℕ → Option ℕ) (topics : List ℕ → ℕ → Option ℕ) (ends : ℕ → ℕ → Bool) → IsIndexed m.entries pairs topics ends
    → AllByRecursion (λ e. ends (end_of e.1) e.0 ≡ true) m.entries
row_ends m pairs topics ends i =
    all_weaker (λ e. get nat_cmp m e.0 ≡ Some e.1) (λ e. ends (end_of e.1) e.0 ≡ true)
    (λ e k. i.in_ends (end_of e.1) e.0 ∙ ap (ends_at (end_of e.1)) k ∙ number_is_itself (end_of e.1))
    m.entries (recursion_from_All (λ e. get nat_cmp m e.0 ≡ Some e.1) m.entries (All-found nat_cmp_total m i.ordered))

pub none_expired : (m : BTreeMap ℕ Lease) (pairs : List ℕ → List ℕ → Option ℕ) (topics : List ℕ → ℕ → Option ℕ) (ends : ℕ → ℕ → Bool) → IsIndexed m.entries pairs topics ends
    → (t : ℕ) → FirstEnd t ends None → list_any (λ e. nat_le (expiry e.1) t) m.entries ≡ false
none_expired m pairs topics ends i t f = all_false m.entries (row_ends m pairs topics ends i)
  where
    later : (l : Lease) → t < end_of l → nat_le (expiry l) t ≡ false
    later l k = grind (arith, nat_tests)

    all_false : (es : Rows) → AllByRecursion (λ e. ends (end_of e.1) e.0 ≡ true) es → list_any (λ e. nat_le (expiry e.1) t) es ≡ false
    all_false [] a = refl
    all_false (e ∷ es) a = rw (later e.1 (f (end_of e.1) e.0 a.0), all_false es a.1)

-- the row that ends first
pub record IsFirstRow (t n : ℕ) (rows : Rows) : Type 0 where
  pub lease : Lease
  pub here : lease_at n rows ≡ Some lease
  pub number : lease.intent.n ≡ n
  pub first : IsFirstExpired t lease rows

pub first_expired : (m : BTreeMap ℕ Lease) (pairs : List ℕ → List ℕ → Option ℕ) (topics : List ℕ → ℕ → Option ℕ) (ends : ℕ → ℕ → Bool) → IsIndexed m.entries pairs topics ends
    → (t n : ℕ) → t < 2 ^ 48 → FirstEnd t ends (Some n) → IsFirstRow t n m.entries
first_expired m pairs topics ends i t n small f = by (lease_at n m.entries) refl (sym (i.in_ends f.0 n) ∙ f.2)
  where
    ended : (l : Lease) → (end_of l == f.0) ≡ true → expiry l ≡ f.0
    ended l k = let e : end_of l ≡ f.0 = eqb-true (end_of l) f.0 k in let le : f.0 ≤ t = f.1 in grind (arith, nat_tests)

    before : (l x : Lease) → expiry l ≡ f.0 → f.0 ≤ end_of x → expiry l ≤ expiry x
    before l x e k = grind (arith, nat_tests)

    by : (o : Option Lease) → lease_at n m.entries ≡ o → ends_at f.0 o ≡ true → IsFirstRow t n m.entries
    by None e k = absurd (false≢true k)
    by (Some l) e k =
        let number : l.intent.n ≡ n = at_some (λ y. y.intent.n ≡ n) (lease_at n m.entries) l e (i.numbered n) in
        let x : expiry l ≡ f.0 = ended l k in
        let le : f.0 ≤ t = f.1 in
        record {
          lease = l;
          here = e;
          number = number;
          first = record {
            held = subst (λ q. lease_at q m.entries ≡ Some l) (sym number) e;
            expired = omega arith;
            first = all_weaker (λ e. ends (end_of e.1) e.0 ≡ true) (λ e. expiry l ≤ expiry e.1) (λ e q. before l e.1 x (f.3 (end_of e.1) e.0 q)) m.entries (row_ends m pairs topics ends i);
          };
        }

-- ---- what a reference finds

pub some_copied : (o : Option (Bor Lease)) → is_some o ≡ is_some (option_copied o)
some_copied None = refl
some_copied (Some l) = refl
