-- How many pairs pass a test, after a change at one key.
use Rattle.std.proofs.Common.{◌≡◌, ℕ, ◌+◌, ◌<◌, ◌≤◌, ◌&&◌, not, Bool, true, false, cond, List, [], ◌∷◌, refl, ap, sym, ◌∙◌, subst, arith, length}
use Rattle.std.specs.Prelude.{filter, ◌==◌, Option, Some, None}
use Rattle.std.specs.List.Sorted.{IsStrictlySortedBy}
use Rattle.std.specs.Cmp.{IsTotalOrder}
use Rattle.std.specs.Map.{lookup, keys_of, remove_entry}
use Rattle.std.specs.BTreeMap.{is_at, insert_entry}
use Rattle.std.specs.Ordering.{is_eq as is_order_eq, match_ordering}
use Rattle.std.specs.declared.cmp.Ordering.{Ordering}
use Rattle.std.specs.declared.cmp.Ordering.TheVariants.{Less, Equal, Greater}
use Rattle.std.proofs.lemmas.Map.{lookup-none}
use Rattle.std.proofs.lemmas.Map.Entries.{none_below_head}
use Rattle.std.proofs.lemmas.Cmp.{on_total, then_total, nat_cmp_total}
use Rattle.std.proofs.lemmas.Bool.{false≢true}
use Rattle.std.proofs.lemmas.Bool.Decides.{nat_tests}
use Rattle.ws_fate.specs.declared.totals.Standing.{Standing}
use Rattle.ws_fate.specs.declared.totals.Standing.TheVariants.{Open}
use Rattle.ws_fate.specs.Rows.{is_open, pair_order}
use Rattle.ws_fate.specs.Counts.{AreCounted, is_open_of, number_of}

-- ---- keys

total_order : IsTotalOrder pair_order
total_order = then_total (on_total (λ (k : ℕ × ℕ). k.0) nat_cmp_total) (on_total (λ (k : ℕ × ℕ). k.1) nat_cmp_total)

same_key : (n v m w : ℕ) → pair_order (n, v) (m, w) ≡ Equal → (m ≡ n) × (w ≡ v)
same_key n v m w e = (grind (arith, nat_tests), grind (arith, nat_tests))

key_is : (k q : ℕ × ℕ) → pair_order k q ≡ Equal → q ≡ k
key_is k q e = let p = same_key k.0 k.1 q.0 q.1 e in (λ j. (p.0 j, p.1 j))

equal_at : (o : Ordering) → is_order_eq o ≡ true → o ≡ Equal
equal_at Less e = absurd (false≢true e)
equal_at Equal e = refl
equal_at Greater e = absurd (false≢true e)

sorted_rest : (k : ℕ × ℕ) (ks : List (ℕ × ℕ)) → IsStrictlySortedBy pair_order (k ∷ ks) → IsStrictlySortedBy pair_order ks
unfolding IsStrictlySortedBy
sorted_rest k ks s = s.1

-- ---- the pairs that pass a test

module _ (f : (ℕ × ℕ) × Standing → Bool) (k : ℕ × ℕ) where
  abbrev at_key : List ((ℕ × ℕ) × Standing) → Option Standing
  at_key es = lookup (is_at (pair_order k)) es

  longer : (b : Bool) (x : (ℕ × ℕ) × Standing) (xs : List ((ℕ × ℕ) × Standing)) → length (cond b (x ∷ xs) xs) ≡ length xs + cond b 1 0
  longer true x xs = omega arith
  longer false x xs = omega arith

  both : (b : Bool) (x : (ℕ × ℕ) × Standing) (xs ys : List ((ℕ × ℕ) × Standing)) (a c : ℕ) → length ys + a ≡ length xs + c → length (cond b (x ∷ ys) ys) + a ≡ length (cond b (x ∷ xs) xs) + c
  both true x xs ys a c q = omega arith
  both false x xs ys a c q = q

  nothing : (n : ℕ) → n + 0 ≡ n
  nothing n = omega arith

  -- one that is removed passes no more
  pub removed_count : (p : Standing) (es : List ((ℕ × ℕ) × Standing)) → at_key es ≡ Some p → length (filter f (remove_entry (is_at (pair_order k)) es)) + cond (f (k, p)) 1 0 ≡ length (filter f es)
  removed_count p [] e = absurd (cc)
  removed_count p (r ∷ es) e = one (is_at (pair_order k) r.0) refl e (removed_count p es)
    where
      value_is : Some r.1 ≡ Some p → r.1 ≡ p
      value_is z = cc

      one : (b : Bool) → is_at (pair_order k) r.0 ≡ b → cond b (Some r.1) (at_key es) ≡ Some p → (at_key es ≡ Some p → length (filter f (remove_entry (is_at (pair_order k)) es)) + cond (f (k, p)) 1 0 ≡ length (filter f es))
          → length (filter f (cond b es (r ∷ remove_entry (is_at (pair_order k)) es))) + cond (f (k, p)) 1 0 ≡ length (filter f (r ∷ es))
      one true q e g =
          let key = key_is k r.0 (equal_at (pair_order k r.0) q) in
          let value = value_is e in
          let same : r ≡ (k, p) = λ j. (key j, value j) in
          subst (λ z. length (filter f es) + cond (f z) 1 0 ≡ length (cond (f r) (r ∷ filter f es) (filter f es))) same (sym (longer (f r) r (filter f es)))
      one false q e g = both (f r) r (filter f es) (filter f (remove_entry (is_at (pair_order k)) es)) (cond (f (k, p)) 1 0) 0 (g e ∙ sym (nothing (length (filter f es)))) ∙ nothing (length (filter f (r ∷ es)))

  -- a new one may pass
  pub inserted_count : (p : Standing) (es : List ((ℕ × ℕ) × Standing)) → at_key es ≡ None → length (filter f (insert_entry pair_order es k p)) ≡ length (filter f es) + cond (f (k, p)) 1 0
  inserted_count p [] e = longer (f (k, p)) (k, p) []
  inserted_count p (r ∷ es) e = by (pair_order k r.0) e (inserted_count p es)
    where
      by : (o : Ordering) → cond (is_order_eq o) (Some r.1) (at_key es) ≡ None → (at_key es ≡ None → length (filter f (insert_entry pair_order es k p)) ≡ length (filter f es) + cond (f (k, p)) 1 0)
          → length (filter f (match_ordering o ((k, p) ∷ r ∷ es) ((r.0, p) ∷ es) (r ∷ insert_entry pair_order es k p))) ≡ length (filter f (r ∷ es)) + cond (f (k, p)) 1 0
      by Less e g = longer (f (k, p)) (k, p) (filter f (r ∷ es))
      by Equal e g = absurd (cc)
      by Greater e g =
          sym (nothing (length (filter f (r ∷ insert_entry pair_order es k p))))
          ∙ both (f r) r (filter f es) (filter f (insert_entry pair_order es k p)) 0 (cond (f (k, p)) 1 0) (nothing (length (filter f (insert_entry pair_order es k p))) ∙ g e)

  -- one that is changed in its place
  pub changed_count : (p q : Standing) (es : List ((ℕ × ℕ) × Standing)) → IsStrictlySortedBy pair_order (keys_of es) → at_key es ≡ Some p
      → length (filter f (insert_entry pair_order es k q)) + cond (f (k, p)) 1 0 ≡ length (filter f es) + cond (f (k, q)) 1 0
  changed_count p q [] s e = absurd (cc)
  changed_count p q (r ∷ es) s e = by (pair_order k r.0) refl e (changed_count p q es (sorted_rest r.0 (keys_of es) s))
    where
      value_is : Some r.1 ≡ Some p → r.1 ≡ p
      value_is z = cc

      none_some : ◌≡◌ {A = Option Standing} None (Some p) → ⊥
      none_some z = cc

      swap : (b c : Bool) (x y : (ℕ × ℕ) × Standing) (xs : List ((ℕ × ℕ) × Standing)) → length (cond c (y ∷ xs) xs) + cond b 1 0 ≡ length (cond b (x ∷ xs) xs) + cond c 1 0
      swap true true x y xs = refl
      swap true false x y xs = omega arith
      swap false true x y xs = omega arith
      swap false false x y xs = refl

      by : (o : Ordering) → pair_order k r.0 ≡ o → cond (is_order_eq o) (Some r.1) (at_key es) ≡ Some p
          → (at_key es ≡ Some p → length (filter f (insert_entry pair_order es k q)) + cond (f (k, p)) 1 0 ≡ length (filter f es) + cond (f (k, q)) 1 0)
          → length (filter f (match_ordering o ((k, q) ∷ r ∷ es) ((r.0, q) ∷ es) (r ∷ insert_entry pair_order es k q))) + cond (f (k, p)) 1 0 ≡ length (filter f (r ∷ es)) + cond (f (k, q)) 1 0
      by Less h e g = absurd (none_some (sym (lookup-none (is_at (pair_order k)) es (none_below_head total_order k r es s h).1) ∙ e))
      by Equal h e g =
          let key = key_is k r.0 h in
          let value = value_is e in
          let old : r ≡ (k, p) = λ j. (key j, value j) in
          let new : (r.0, q) ≡ (k, q) = λ j. (key j, q) in
          subst (λ z. length (filter f ((r.0, q) ∷ es)) + cond (f z) 1 0 ≡ length (filter f (r ∷ es)) + cond (f (k, q)) 1 0) old
          (subst (λ z. length (filter f ((r.0, q) ∷ es)) + cond (f r) 1 0 ≡ length (filter f (r ∷ es)) + cond (f z) 1 0) new (swap (f r) (f (r.0, q)) r (r.0, q) (filter f es)))
      by Greater h e g = both (f r) r (filter f es) (filter f (insert_entry pair_order es k q)) (cond (f (k, p)) 1 0) (cond (f (k, q)) 1 0) (g e)

-- no more pass than there are
pub few_pass : (f : (ℕ × ℕ) × Standing → Bool) (es : List ((ℕ × ℕ) × Standing)) → length (filter f es) ≤ length es
few_pass f [] = omega arith
few_pass f (e ∷ es) = by (f e) (few_pass f es)
  where
    by : (b : Bool) → length (filter f es) ≤ length es → length (cond b (e ∷ filter f es) (filter f es)) ≤ length (e ∷ es)
    by true q = omega arith
    by false q = omega arith

-- ---- the table's changes

abbrev one_if : Bool → ℕ
one_if b = cond b 1 0

-- an open pair counts for its version
opened : (ver v lease : ℕ) → one_if (is_open_of v ((lease, ver), Open)) ≡ one_if (ver == v)
opened ver v lease = by (ver == v)
  where
    by : (b : Bool) → one_if (b && true) ≡ one_if b
    by true = refl
    by false = refl

-- a pair is born
pub counted_more : (ver lease : ℕ) (pairs pairs' : List ((ℕ × ℕ) × Standing)) (counts counts' : List (ℕ × ℕ)) → AreCounted pairs counts
    → lookup (is_at (pair_order (lease, ver))) pairs ≡ None → pairs' ≡ insert_entry pair_order pairs (lease, ver) Open
    → ((v : ℕ) → number_of v counts' ≡ number_of v counts + cond (ver == v) 1 0) → AreCounted pairs' counts'
counted_more ver lease pairs pairs' counts counts' counted new inserted more v =
    let l = counted v in
    let m = more v in
    let n = inserted_count (is_open_of v) (lease, ver) Open pairs new in
    let o = ap (λ es. length (filter (is_open_of v) es)) inserted in
    let p = opened ver v lease in
    omega arith

-- an open pair is taken out
pub counted_less : (ver lease : ℕ) (pairs pairs' : List ((ℕ × ℕ) × Standing)) (counts counts' : List (ℕ × ℕ)) → AreCounted pairs counts
    → lookup (is_at (pair_order (lease, ver))) pairs ≡ Some Open → pairs' ≡ remove_entry (is_at (pair_order (lease, ver))) pairs
    → ((v : ℕ) → number_of v counts' + cond (ver == v) 1 0 ≡ number_of v counts) → AreCounted pairs' counts'
counted_less ver lease pairs pairs' counts counts' counted there removed less v =
    let l = counted v in
    let m = less v in
    let n = removed_count (is_open_of v) (lease, ver) Open pairs there in
    let o = ap (λ es. length (filter (is_open_of v) es)) removed in
    let p = opened ver v lease in
    omega arith

-- an open pair comes to stand as it ended
pub counted_off : (ver lease : ℕ) (how : Standing) (pairs pairs' : List ((ℕ × ℕ) × Standing)) (counts counts' : List (ℕ × ℕ)) → AreCounted pairs counts
    → IsStrictlySortedBy pair_order (keys_of pairs) → lookup (is_at (pair_order (lease, ver))) pairs ≡ Some Open → pairs' ≡ insert_entry pair_order pairs (lease, ver) how
    → ((v : ℕ) → number_of v counts' + cond ((ver == v) && not (is_open how)) 1 0 ≡ number_of v counts) → AreCounted pairs' counts'
counted_off ver lease how pairs pairs' counts counts' counted sorted there inserted less v =
    let l = counted v in
    let m = less v in
    let n = changed_count (is_open_of v) (lease, ver) Open how pairs sorted there in
    let o = ap (λ es. length (filter (is_open_of v) es)) inserted in
    let p = opened ver v lease in
    let q = parts (ver == v) (is_open how) in
    omega arith
  where
    parts : (b c : Bool) → one_if (b && not c) + one_if (b && c) ≡ one_if b
    parts true true = refl
    parts true false = refl
    parts false c = refl

-- where a pair is open, its version has some
pub some_open : (ver lease : ℕ) (pairs : List ((ℕ × ℕ) × Standing)) (counts : List (ℕ × ℕ)) → AreCounted pairs counts → lookup (is_at (pair_order (lease, ver))) pairs ≡ Some Open → 0 < number_of ver counts
some_open ver lease pairs counts counted there =
    let l = counted ver in
    let n = removed_count (is_open_of ver) (lease, ver) Open pairs there in
    let p = opened ver ver lease ∙ itself ver in
    omega arith
  where
    itself : (v : ℕ) → one_if (v == v) ≡ 1
    itself v = grind (arith, nat_tests)
