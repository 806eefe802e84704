-- The numbers of open pairs by the ends of their leases.
use Rattle.std.proofs.Common.{◌≡◌, ℕ, ◌+◌, ◌<◌, ◌≤◌, Bool, true, false, cond, List, [], ◌∷◌, refl, ap, sym, ◌∙◌, subst, arith, length}
use Rattle.std.specs.Prelude.{filter, nat_lt, ◌==◌, Option, Some, None, IfSome, unwrap_or}
use Rattle.std.specs.List.Sorted.{IsStrictlySortedBy}
use Rattle.std.specs.Cmp.{IsTotalOrder}
use Rattle.std.specs.Map.{lookup, keys_of, values_of, remove_entry}
use Rattle.std.specs.BTreeMap.{is_at, insert_entry}
use Rattle.std.specs.Ordering.{is_eq as is_order_eq, match_ordering}
use Rattle.std.specs.declared.cmp.Ordering.{Ordering}
use Rattle.std.specs.declared.cmp.Ordering.TheVariants.{Less, Equal, Greater}
use Rattle.std.proofs.lemmas.Map.{lookup-none}
use Rattle.std.proofs.lemmas.Map.Entries.{none_below_head}
use Rattle.std.proofs.lemmas.Cmp.{on_total, then_total, nat_cmp_total}
use Rattle.std.proofs.lemmas.Bool.{false≢true}
use Rattle.std.proofs.lemmas.Bool.Decides.{nat_tests}
use Rattle.ws_delivery.specs.declared.open_pair.OpenPair.{OpenPair}
use Rattle.ws_delivery.specs.Table.{Rows, pair_order, pair_at, is_here, is_of_lease, number_of, number_owed}
use Rattle.ws_delivery.specs.Indexed.{Ends, is_end, total, number_ending, AreCounts, IsCounted}
use Rattle.ws_delivery.proofs.RowsByKey.{key_test, look_at, inserted_count, removed_count}

-- ---- keys

pub total_order : IsTotalOrder pair_order
total_order = then_total (on_total (λ (k : ℕ × ℕ). k.0) nat_cmp_total) (on_total (λ (k : ℕ × ℕ). k.1) nat_cmp_total)

same_key : (x n y m : ℕ) → pair_order (x, n) (y, m) ≡ Equal → (y ≡ x) × (m ≡ n)
same_key x n y m e = (grind (arith, nat_tests), grind (arith, nat_tests))

pub key_is : (x n : ℕ) (k : ℕ × ℕ) → pair_order (x, n) k ≡ Equal → k ≡ (x, n)
key_is x n k e = let p = same_key x n k.0 k.1 e in (λ j. (p.0 j, p.1 j))

equal_at : (o : Ordering) → is_order_eq o ≡ true → o ≡ Equal
equal_at Less e = absurd (false≢true e)
equal_at Equal e = refl
equal_at Greater e = absurd (false≢true e)

pub key_at : (x n : ℕ) (k : ℕ × ℕ) → is_end x n k ≡ true → k ≡ (x, n)
key_at x n k e = key_is x n k (equal_at (pair_order (x, n) k) e)

sorted_rest : (k : ℕ × ℕ) (ks : List (ℕ × ℕ)) → IsStrictlySortedBy pair_order (k ∷ ks) → IsStrictlySortedBy pair_order ks
unfolding IsStrictlySortedBy
sorted_rest k ks s = s.1

-- no key from one on is below it
nothing_below : {X : Type 0} (x n : ℕ) (e : (ℕ × ℕ) × X) (es : List ((ℕ × ℕ) × X)) → IsStrictlySortedBy pair_order (keys_of (e ∷ es)) → pair_order (x, n) e.0 ≡ Less → lookup (is_end x n) es ≡ None
nothing_below x n e es s l = lookup-none (is_end x n) es (none_below_head total_order (x, n) e es s l).1

-- no later key is the first one
nothing_behind : {X : Type 0} (x n : ℕ) (es : List ((ℕ × ℕ) × X)) → IsStrictlySortedBy pair_order ((x, n) ∷ keys_of es) → lookup (is_end x n) es ≡ None
unfolding IsStrictlySortedBy
nothing_behind x n [] s = refl
nothing_behind x n (e ∷ es) s = ap (λ b. cond b (Some e.1) (lookup (is_end x n) es)) (ap is_order_eq s.0.0) ∙ nothing_behind x n es (s.0.1, s.1.1)

-- ---- the sum of the numbers

pub total_inserted : (g : ℕ × ℕ → Bool) (x n k : ℕ) (es : Ends) → IsStrictlySortedBy pair_order (keys_of es)
    → total g (insert_entry pair_order es (x, n) k) + cond (g (x, n)) (unwrap_or (lookup (is_end x n) es) 0) 0 ≡ total g es + cond (g (x, n)) k 0
total_inserted g x n k [] s = by (g (x, n))
  where
    by : (b : Bool) → (cond b k 0 + 0) + cond b 0 0 ≡ 0 + cond b k 0
    by true = omega arith
    by false = omega arith
total_inserted g x n k (e ∷ es) s = by (pair_order (x, n) e.0) refl (total_inserted g x n k es (sorted_rest e.0 (keys_of es) s))
  where
    front : (b : Bool) (a t : ℕ) (o : Option ℕ) → o ≡ None → (cond b k 0 + (a + t)) + cond b (unwrap_or o 0) 0 ≡ (a + t) + cond b k 0
    front true a t None q = omega arith
    front false a t None q = omega arith
    front b a t (Some z) q = absurd (cc)

    swap : (b : Bool) (a t : ℕ) → (cond b k 0 + t) + cond b a 0 ≡ (cond b a 0 + t) + cond b k 0
    swap true a t = omega arith
    swap false a t = omega arith

    both : (a t u y z : ℕ) → t + y ≡ u + z → (a + t) + y ≡ (a + u) + z
    both a t u y z q = omega arith

    by : (o : Ordering) → pair_order (x, n) e.0 ≡ o → total g (insert_entry pair_order es (x, n) k) + cond (g (x, n)) (unwrap_or (lookup (is_end x n) es) 0) 0 ≡ total g es + cond (g (x, n)) k 0
        → total g (match_ordering o (((x, n), k) ∷ e ∷ es) ((e.0, k) ∷ es) (e ∷ insert_entry pair_order es (x, n) k)) + cond (g (x, n)) (unwrap_or (cond (is_order_eq o) (Some e.1) (lookup (is_end x n) es)) 0) 0 ≡ (cond (g e.0) e.1 0 + total g es) + cond (g (x, n)) k 0
    by Less q r = front (g (x, n)) (cond (g e.0) e.1 0) (total g es) (lookup (is_end x n) es) (nothing_below x n e es s q)
    by Equal q r = subst (λ z. (cond (g z) k 0 + total g es) + cond (g (x, n)) e.1 0 ≡ (cond (g z) e.1 0 + total g es) + cond (g (x, n)) k 0) (sym (key_is x n e.0 q)) (swap (g (x, n)) e.1 (total g es))
    by Greater q r = both (cond (g e.0) e.1 0) (total g (insert_entry pair_order es (x, n) k)) (total g es) (cond (g (x, n)) (unwrap_or (lookup (is_end x n) es) 0) 0) (cond (g (x, n)) k 0) r

pub total_removed : (g : ℕ × ℕ → Bool) (x n : ℕ) (es : Ends) → total g (remove_entry (is_end x n) es) + cond (g (x, n)) (unwrap_or (lookup (is_end x n) es) 0) 0 ≡ total g es
total_removed g x n [] = by (g (x, n))
  where
    by : (b : Bool) → 0 + cond b 0 0 ≡ 0
    by true = omega arith
    by false = omega arith
total_removed g x n (e ∷ es) = by (is_end x n e.0) refl (total_removed g x n es)
  where
    swap : (a t : ℕ) → t + a ≡ a + t
    swap a t = omega arith

    both : (a t u y : ℕ) → t + y ≡ u → (a + t) + y ≡ a + u
    both a t u y q = omega arith

    by : (b : Bool) → is_end x n e.0 ≡ b → total g (remove_entry (is_end x n) es) + cond (g (x, n)) (unwrap_or (lookup (is_end x n) es) 0) 0 ≡ total g es
        → total g (cond b es (e ∷ remove_entry (is_end x n) es)) + cond (g (x, n)) (unwrap_or (cond b (Some e.1) (lookup (is_end x n) es)) 0) 0 ≡ cond (g e.0) e.1 0 + total g es
    by true q r = subst (λ z. total g es + cond (g (x, n)) e.1 0 ≡ cond (g z) e.1 0 + total g es) (sym (key_at x n e.0 q)) (swap (cond (g (x, n)) e.1 0) (total g es))
    by false q r = both (cond (g e.0) e.1 0) (total g (remove_entry (is_end x n) es)) (total g es) (cond (g (x, n)) (unwrap_or (lookup (is_end x n) es) 0) 0) r

none_more : (k : ℕ) → 0 + k ≡ k
none_more k = omega arith

-- where a key has no number, its sum is 0
total_none : (x n : ℕ) (es : Ends) → lookup (is_end x n) es ≡ None → total (is_end x n) es ≡ 0
total_none x n [] q = refl
total_none x n (e ∷ es) q = by (is_end x n e.0) q (total_none x n es)
  where
    by : (b : Bool) → cond b (Some e.1) (lookup (is_end x n) es) ≡ None → (lookup (is_end x n) es ≡ None → total (is_end x n) es ≡ 0) → cond b e.1 0 + total (is_end x n) es ≡ 0
    by true q r = absurd (cc)
    by false q r = none_more _ ∙ r q

-- the sum at one key is the number there
pub total_is : (x n : ℕ) (es : Ends) → IsStrictlySortedBy pair_order (keys_of es) → total (is_end x n) es ≡ unwrap_or (lookup (is_end x n) es) 0
total_is x n [] s = refl
total_is x n (e ∷ es) s = by (is_end x n e.0) refl (total_is x n es (sorted_rest e.0 (keys_of es) s))
  where
    nothing : (k : ℕ) → k + 0 ≡ k
    nothing k = omega arith

    by : (b : Bool) → is_end x n e.0 ≡ b → total (is_end x n) es ≡ unwrap_or (lookup (is_end x n) es) 0 → cond b e.1 0 + total (is_end x n) es ≡ unwrap_or (cond b (Some e.1) (lookup (is_end x n) es)) 0
    by true q r = ap (λ z. e.1 + z) (total_none x n es (nothing_behind x n es (subst (λ z. IsStrictlySortedBy pair_order (z ∷ keys_of es)) (key_at x n e.0 q) s))) ∙ nothing e.1
    by false q r = none_more _ ∙ r

-- ---- one more, and one less

pub one_more : (g : ℕ × ℕ → Bool) (x n k : ℕ) (old new : Ends) → IsStrictlySortedBy pair_order (keys_of old) → k ≡ unwrap_or (lookup (is_end x n) old) 0 → new ≡ insert_entry pair_order old (x, n) (k + 1) → total g new ≡ total g old + cond (g (x, n)) 1 0
one_more g x n k old new s e f =
    by (g (x, n)) (total g new) (total g old)
    (subst (λ z. total g new + cond (g (x, n)) z 0 ≡ total g old + cond (g (x, n)) (k + 1) 0) (sym e)
    (subst (λ z. total g z + cond (g (x, n)) (unwrap_or (lookup (is_end x n) old) 0) 0 ≡ total g old + cond (g (x, n)) (k + 1) 0) (sym f) (total_inserted g x n (k + 1) old s)))
  where
    by : (b : Bool) (t u : ℕ) → t + cond b k 0 ≡ u + cond b (k + 1) 0 → t ≡ u + cond b 1 0
    by true t u q = omega arith
    by false t u q = omega arith

pub one_less : (g : ℕ × ℕ → Bool) (x n k m : ℕ) (old new : Ends) → IsStrictlySortedBy pair_order (keys_of old) → k ≡ unwrap_or (lookup (is_end x n) old) 0 → m + 1 ≡ k → new ≡ insert_entry pair_order old (x, n) m → total g new + cond (g (x, n)) 1 0 ≡ total g old
one_less g x n k m old new s e l f =
    by (g (x, n)) (total g new) (total g old)
    (subst (λ z. total g new + cond (g (x, n)) z 0 ≡ total g old + cond (g (x, n)) m 0) (sym e)
    (subst (λ z. total g z + cond (g (x, n)) (unwrap_or (lookup (is_end x n) old) 0) 0 ≡ total g old + cond (g (x, n)) m 0) (sym f) (total_inserted g x n m old s)))
  where
    by : (b : Bool) (t u : ℕ) → t + cond b k 0 ≡ u + cond b m 0 → t + cond b 1 0 ≡ u
    by true t u q = omega arith
    by false t u q = omega arith

pub last_less : (g : ℕ × ℕ → Bool) (x n k : ℕ) (old new : Ends) → k ≡ unwrap_or (lookup (is_end x n) old) 0 → k ≡ 1 → new ≡ remove_entry (is_end x n) old → total g new + cond (g (x, n)) 1 0 ≡ total g old
last_less g x n k old new e l f =
    subst (λ z. total g new + cond (g (x, n)) z 0 ≡ total g old) (sym e ∙ l)
    (subst (λ z. total g z + cond (g (x, n)) (unwrap_or (lookup (is_end x n) old) 0) 0 ≡ total g old) (sym f) (total_removed g x n old))

pub some_after : (b : Bool) (k : ℕ) (o : Option ℕ) → 0 < k → IfSome o (λ z. 0 < z) → IfSome (cond b (Some k) o) (λ z. 0 < z)
some_after true k o l q = l
some_after false k o l q = q

pub some_left : (b : Bool) (o : Option ℕ) → IfSome o (λ z. 0 < z) → IfSome (cond b None o) (λ z. 0 < z)
some_left true o q = tt
some_left false o q = q

-- ---- the open pairs that are counted

pub few_counted : (g : (ℕ × ℕ) × OpenPair → Bool) (rows : Rows) → length (filter g rows) ≤ length rows
few_counted g [] = omega arith
few_counted g (r ∷ rows) = by (g r) (few_counted g rows)
  where
    by : (b : Bool) → length (filter g rows) ≤ length rows → length (cond b (r ∷ filter g rows) (filter g rows)) ≤ length (r ∷ rows)
    by true q = omega arith
    by false q = omega arith

some_is : (p q : OpenPair) → Some p ≡ Some q → p ≡ q
some_is p q e = cc

-- an open pair that is changed in its place is counted as before
pub replaced_count : (f : (ℕ × ℕ) × OpenPair → Bool) (v n : ℕ) (p q : OpenPair) (rows : Rows) → IsStrictlySortedBy pair_order (keys_of rows) → pair_at v n rows ≡ Some p → f ((n, v), q) ≡ f ((n, v), p)
    → length (filter f (insert_entry pair_order rows (n, v) q)) ≡ length (filter f rows)
replaced_count f v n p q [] s e k = absurd (cc)
replaced_count f v n p q (r ∷ rows) s e k = by (pair_order (n, v) r.0) refl e (λ h. replaced_count f v n p q rows (sorted_rest r.0 (keys_of rows) s) h k)
  where
    both : (b : Bool) (xs ys : Rows) → length ys ≡ length xs → length (cond b (r ∷ ys) ys) ≡ length (cond b (r ∷ xs) xs)
    both true xs ys h = omega arith
    both false xs ys h = h

    one : (b c : Bool) (x y : (ℕ × ℕ) × OpenPair) (xs : Rows) → b ≡ c → length (cond b (x ∷ xs) xs) ≡ length (cond c (y ∷ xs) xs)
    one true true x y xs h = refl
    one true false x y xs h = absurd (false≢true (sym h))
    one false true x y xs h = absurd (false≢true h)
    one false false x y xs h = refl

    same : r.0 ≡ (n, v) → r.1 ≡ p → f (r.0, q) ≡ f r
    same h i = ap (λ z. f (z, q)) h ∙ k ∙ (λ j. f (sym h j, sym i j))

    by : (o : Ordering) → pair_order (n, v) r.0 ≡ o → cond (is_order_eq o) (Some r.1) (pair_at v n rows) ≡ Some p → (pair_at v n rows ≡ Some p → length (filter f (insert_entry pair_order rows (n, v) q)) ≡ length (filter f rows))
        → length (filter f (match_ordering o (((n, v), q) ∷ r ∷ rows) ((r.0, q) ∷ rows) (r ∷ insert_entry pair_order rows (n, v) q))) ≡ length (filter f (r ∷ rows))
    by Less h e g = absurd (none_some (sym (nothing_below n v r rows s h) ∙ e))
      where
        none_some : ◌≡◌ {A = Option OpenPair} None (Some p) → ⊥
        none_some z = cc
    by Equal h e g = one (f (r.0, q)) (f r) (r.0, q) r (filter f rows) (same (key_is n v r.0 h) (some_is r.1 p e))
    by Greater h e g = both (f r) (filter f rows) (filter f (insert_entry pair_order rows (n, v) q)) (g e)

-- an open pair is one of those that are counted at its end
pub counted_there : (v n : ℕ) (p : OpenPair) (rows : Rows) → pair_at v n rows ≡ Some p → 0 < number_ending (is_end p.exp n) rows
counted_there v n p rows e =
    let h = removed_count (λ d. is_end p.exp n (d.1.exp, d.0.0)) v n p rows e in
    let s : length (filter (λ d. is_end p.exp n (d.1.exp, d.0.0)) (remove_entry (is_at (pair_order (n, v))) rows)) + 1 ≡ number_ending (is_end p.exp n) rows = ap (λ b. length (filter (λ d. is_end p.exp n (d.1.exp, d.0.0)) (remove_entry (is_at (pair_order (n, v))) rows)) + cond b 1 0) (sym (own p.exp n)) ∙ h in
    omega arith
  where
    own : (x m : ℕ) → is_end x m (x, m) ≡ true
    own x m = grind (arith, nat_tests)

-- ---- the table's changes

pub counted_more : (rows rows' : Rows) (ends ends' : Ends) (v n : ℕ) (p : OpenPair) → IsCounted rows ends → pair_at v n rows ≡ None → rows' ≡ insert_entry pair_order rows (n, v) p → AreCounts ends'
    → ((g : ℕ × ℕ → Bool) → total g ends' ≡ total g ends + cond (g (p.exp, n)) 1 0) → IsCounted rows' ends'
counted_more rows rows' ends ends' v n p i e f a more =
    record {
      are_counts = a;
      counts = λ g.
          more g ∙ ap (λ z. z + cond (g (p.exp, n)) 1 0) (i.counts g)
          ∙ sym (ap (number_ending g) f ∙ inserted_count (λ d. g (d.1.exp, d.0.0)) v n p rows e);
    }

pub counted_less : (rows rows' : Rows) (ends ends' : Ends) (v n : ℕ) (p : OpenPair) → IsCounted rows ends → pair_at v n rows ≡ Some p → rows' ≡ remove_entry (is_at (pair_order (n, v))) rows → AreCounts ends'
    → ((g : ℕ × ℕ → Bool) → total g ends' + cond (g (p.exp, n)) 1 0 ≡ total g ends) → IsCounted rows' ends'
counted_less rows rows' ends ends' v n p i e f a less =
    record {
      are_counts = a;
      counts = λ g.
          cancel (total g ends') (total g ends) (number_ending g rows') (number_ending g rows) (cond (g (p.exp, n)) 1 0) (less g)
          (ap (λ z. number_ending g z + cond (g (p.exp, n)) 1 0) f ∙ removed_count (λ d. g (d.1.exp, d.0.0)) v n p rows e) (i.counts g);
    }
  where
    cancel : (a b c d k : ℕ) → a + k ≡ b → c + k ≡ d → b ≡ d → a ≡ c
    cancel a b c d k p q r = omega arith

pub counted_still : (rows rows' : Rows) (ends : Ends) (v n : ℕ) (p q : OpenPair) → IsCounted rows ends → IsStrictlySortedBy pair_order (keys_of rows) → pair_at v n rows ≡ Some p → q.exp ≡ p.exp → rows' ≡ insert_entry pair_order rows (n, v) q → IsCounted rows' ends
counted_still rows rows' ends v n p q i s e k f =
    record {
      are_counts = i.are_counts;
      counts = λ g.
          i.counts g ∙ sym (ap (number_ending g) f ∙ replaced_count (λ d. g (d.1.exp, d.0.0)) v n p q rows s e (ap (λ x. g (x, n)) k));
    }

-- ---- the pairs of one lease

-- where all pairs of a lease end at once, those that end there are its pairs
pub number_of_lease : (x n : ℕ) (rows : Rows) → IsStrictlySortedBy pair_order (keys_of rows) → ((v : ℕ) → IfSome (pair_at v n rows) (λ p. p.exp ≡ x)) → number_ending (is_end x n) rows ≡ number_of n rows
number_of_lease x n [] s f = refl
number_of_lease x n (r ∷ rows) s f = by (is_end x n (r.1.exp, r.0.0)) (is_of_lease n r) (alike (is_of_lease n r) refl) (number_of_lease x n rows (sorted_rest r.0 (keys_of rows) s) rest)
  where
    self : (m u : ℕ) → (m == n) ≡ true → is_here u n u m ≡ true
    self m u k = grind (arith, nat_tests)

    here : (y m : ℕ) → (m == n) ≡ true → y ≡ x → is_here n x m y ≡ true
    here y m k q = grind (arith, nat_tests)

    other : (y m : ℕ) → (m == n) ≡ false → is_here n x m y ≡ false
    other y m k = grind (arith, nat_tests)

    ends : is_of_lease n r ≡ true → r.1.exp ≡ x
    ends k = subst (λ o. IfSome o (λ p. p.exp ≡ x)) (look_at r.0.1 n r rows ∙ ap (λ b. cond b (Some r.1) (pair_at r.0.1 n rows)) (self r.0.0 r.0.1 k)) (f r.0.1)

    alike : (b : Bool) → is_of_lease n r ≡ b → is_end x n (r.1.exp, r.0.0) ≡ b
    alike true k = key_test x n r.1.exp r.0.0 ∙ here r.1.exp r.0.0 k (ends k)
    alike false k = key_test x n r.1.exp r.0.0 ∙ other r.1.exp r.0.0 k

    rest : (v : ℕ) → IfSome (pair_at v n rows) (λ p. p.exp ≡ x)
    rest v = one (is_end n v r.0) refl (f v)
      where
        one : (b : Bool) → is_end n v r.0 ≡ b → IfSome (cond b (Some r.1) (pair_at v n rows)) (λ p. p.exp ≡ x) → IfSome (pair_at v n rows) (λ p. p.exp ≡ x)
        one true k h = subst (λ o. IfSome o (λ p. p.exp ≡ x)) (sym (nothing_behind n v rows (subst (λ z. IsStrictlySortedBy pair_order (z ∷ keys_of rows)) (key_at n v r.0 k) s))) tt
        one false k h = h

    by : (b c : Bool) → b ≡ c → number_ending (is_end x n) rows ≡ number_of n rows → length (cond b (r ∷ filter (λ e. is_end x n (e.1.exp, e.0.0)) rows) (filter (λ e. is_end x n (e.1.exp, e.0.0)) rows)) ≡ length (cond c (r ∷ filter (is_of_lease n) rows) (filter (is_of_lease n) rows))
    by true true k h = omega arith
    by true false k h = absurd (false≢true (sym k))
    by false true k h = absurd (false≢true k)
    by false false k h = h

-- ---- all, and those after a time

pub all_counted : (rows : Rows) → number_ending (λ q. true) rows ≡ length rows
all_counted [] = refl
all_counted (r ∷ rows) = let h = all_counted rows in omega arith

pub owed_counted : (t : ℕ) (rows : Rows) → number_ending (λ q. nat_lt t q.0) rows ≡ number_owed t rows
owed_counted t [] = refl
owed_counted t (r ∷ rows) = by (nat_lt t r.1.exp) (owed_counted t rows)
  where
    by : (b : Bool) → number_ending (λ q. nat_lt t q.0) rows ≡ number_owed t rows → length (cond b (r ∷ filter (λ e. nat_lt t e.1.exp) rows) (filter (λ e. nat_lt t e.1.exp) rows)) ≡ length (cond b (r.1 ∷ filter (λ p. nat_lt t p.exp) (values_of rows)) (filter (λ p. nat_lt t p.exp) (values_of rows)))
    by true h = omega arith
    by false h = h

lt : (t x : ℕ) → t < x → nat_lt t x ≡ true
lt t x k = grind (arith, nat_tests)

not_lt : (t x : ℕ) → x ≤ t → nat_lt t x ≡ false
not_lt t x k = grind (arith, nat_tests)

-- from an end that is after t on, all are
pub all_after : (t : ℕ) (e : (ℕ × ℕ) × ℕ) (es : Ends) → IsStrictlySortedBy pair_order (keys_of (e ∷ es)) → t < e.0.0 → total (λ q. true) (e ∷ es) ≡ total (λ q. nat_lt t q.0) (e ∷ es)
unfolding IsStrictlySortedBy
all_after t e [] s l = ap (λ b. cond b e.1 0 + 0) (sym (lt t e.0.0 l))
all_after t e (d ∷ es) s l = ap (λ z. e.1 + z) (all_after t d es s.1 (later e.0.0 e.0.1 d.0.0 d.0.1 s.0.0 l)) ∙ ap (λ b. cond b e.1 0 + total (λ q. nat_lt t q.0) (d ∷ es)) (sym (lt t e.0.0 l))
  where
    later : (x n y m : ℕ) → pair_order (x, n) (y, m) ≡ Less → t < x → t < y
    later x n y m k l = grind (arith, nat_tests)

pub skipped : (t : ℕ) (e : (ℕ × ℕ) × ℕ) (es : Ends) → e.0.0 ≤ t → total (λ q. nat_lt t q.0) es ≡ total (λ q. nat_lt t q.0) (e ∷ es)
skipped t e es l = sym (none_more _) ∙ ap (λ b. cond b e.1 0 + total (λ q. nat_lt t q.0) es) (sym (not_lt t e.0.0 l))

pub sorted_tail : (e : (ℕ × ℕ) × ℕ) (es : Ends) → IsStrictlySortedBy pair_order (keys_of (e ∷ es)) → IsStrictlySortedBy pair_order (keys_of es)
sorted_tail e es s = sorted_rest e.0 (keys_of es) s
