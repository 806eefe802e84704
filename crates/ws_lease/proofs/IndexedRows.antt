-- The rows of the table and its indexes together.
use Rattle.std.proofs.Common.{◌≡◌, ℕ, Bool, true, false, cond, ◌&&◌, ◌||◌, List, [], ◌∷◌, refl, ap, sym, ◌∙◌, subst, Option, Some, None, arith}
use Rattle.std.specs.Prelude.{bytes_eq, find, option_map, IfSome, IsSomeAnd, nat_lt, ◌==◌}
use Rattle.std.specs.List.{AllByRecursion, list_any}
use Rattle.std.specs.List.Sorted.{IsStrictlySortedBy}
use Rattle.std.specs.Map.{lookup, keys_of, remove_entry}
use Rattle.std.specs.BTreeMap.{BTreeMap, get, is_at, insert_entry}
use Rattle.std.specs.Ordering.{nat_cmp, match_ordering}
use Rattle.std.specs.declared.cmp.Ordering.TheVariants.{Less, Equal, Greater}
use Rattle.std.specs.Cmp.{nat_cmp_total}
use Rattle.std.proofs.lemmas.Map.Views.{All-found}
use Rattle.std.proofs.lemmas.List.Elements.{recursion_from_All}
use Rattle.std.proofs.lemmas.Slice.Eq.{bytes_eq-Decides}
use Rattle.std.proofs.lemmas.Bool.{false≢true, false_from_ne_true, and_parts, and_from, or_left, or_right, eqb-true}
use Rattle.std.proofs.lemmas.Bool.Decides.{nat_tests}
use Rattle.ws_model.specs.declared.lease.Lease.{Lease}
use Rattle.ws_model.specs.Leases.{expiry}
use Rattle.ws_laws.proofs.ListLaws.{all_weaker}
use Rattle.ws_lease.specs.Index.{is_it}
use Rattle.ws_lease.specs.Indexed.{IsIndexed, IsPair, end_of, end_in, ends_at, is_live_at, still_live}
use Rattle.ws_lease.specs.Table.{Rows, lease_at, live_of_pair, number_of_pair, is_row_of, is_live_row_of, unless_pair}
use Rattle.ws_lease.proofs.ByteKeys.{bytes_from_eq}

find_none : {X : Type 0} (q : X → Bool) (xs : List X) → AllByRecursion (λ x. q x ≡ false) xs → find q xs ≡ None
find_none q [] a = refl
find_none q (x ∷ xs) a = rw a.0 (find_none q xs a.1)

any_from_lookup : (test : ℕ → Bool) (q : ℕ × Lease → Bool) (l : Lease) (es : Rows) → lookup test es ≡ Some l → ((k : ℕ) → q (k, l) ≡ true) → list_any q es ≡ true
any_from_lookup test q l [] e f = absurd (grind arith)
any_from_lookup test q l (x ∷ es) e f = one (test x.0) e (any_from_lookup test q l es)
  where
    one : (b : Bool) → cond b (Some x.1) (lookup test es) ≡ Some l → (lookup test es ≡ Some l → ((k : ℕ) → q (k, l) ≡ true) → list_any q es ≡ true) → (q x || list_any q es) ≡ true
    one true g r = or_left _ _ (subst (λ y. q (x.0, y) ≡ true) (let s : l ≡ x.1 = cc in s) (f x.0))
    one false g r = or_right (q x) _ (r g f)

find_one : (q : ℕ × Lease → Bool) (n : ℕ) (es : Rows) → AllByRecursion (λ e. q e ≡ true → e.0 ≡ n) es → list_any q es ≡ true → option_map (λ e. e.0) (find q es) ≡ Some n
find_one q n [] a e = absurd (false≢true e)
find_one q n (x ∷ es) a e = one (q x) refl (find_one q n es a.1)
  where
    one : (b : Bool) → q x ≡ b → (list_any q es ≡ true → option_map (λ e. e.0) (find q es) ≡ Some n) → option_map (λ e. e.0) (cond b (Some x) (find q es)) ≡ Some n
    one true k r = ap (λ m. Some m) (a.0 k)
    one false k r = r (rw k at e)

pub bytes_are_same : (a : List ℕ) → bytes_eq a a ≡ true
bytes_are_same a = (bytes_eq-Decides a a).1 refl

pub numbers_turned : (m n : ℕ) → (m == n) ≡ (n == m)
numbers_turned m n = grind (arith, nat_tests)

pub number_is_itself : (n : ℕ) → (n == n) ≡ true
number_is_itself n = grind (arith, nat_tests)

pub is_at_number : (n m : ℕ) → is_at (nat_cmp n) m ≡ (n == m)
is_at_number n m = grind (arith, nat_tests)

pub at_some : {X : Type 0} (P : X → Type 0) (o : Option X) (x : X) → o ≡ Some x → IfSome o P → P x
at_some P None x e k = absurd (grind arith)
at_some P (Some y) x e k = subst P (let s : y ≡ x = cc in s) k

some_and : {X : Type 0} (P : X → Type 0) (o : Option X) (x : X) → o ≡ Some x → IsSomeAnd o P → P x
some_and P None x e k = elim k [ ]
some_and P (Some y) x e k = subst P (let s : y ≡ x = cc in s) k

-- ---- what the index by topic and callback finds

-- an entry of the list, by its number and by its pair
record IsKnown (es : Rows) (pairs : List ℕ → List ℕ → Option ℕ) (e : ℕ × Lease) : Type 0 where
  here : lease_at e.0 es ≡ Some e.1
  indexed : pairs e.1.intent.topic e.1.intent.callback ≡ Some e.0

module _ (m : BTreeMap ℕ Lease) (pairs : List ℕ → List ℕ → Option ℕ) (topics : List ℕ → ℕ → Option ℕ) (ends : ℕ → ℕ → Bool) (i : IsIndexed m.entries pairs topics ends) where
  entries_known : AllByRecursion (IsKnown m.entries pairs) m.entries
  entries_known =
      all_weaker (λ e. get nat_cmp m e.0 ≡ Some e.1) (IsKnown m.entries pairs)
      (λ e k. record { here = k; indexed = subst (λ o. IfSome o (λ l. pairs l.intent.topic l.intent.callback ≡ Some e.0)) k (i.listed e.0) })
      m.entries (recursion_from_All (λ e. get nat_cmp m e.0 ≡ Some e.1) m.entries (All-found nat_cmp_total m i.ordered))

  module _ (a b : List ℕ) where
    known_number : (e : ℕ × Lease) → IsKnown m.entries pairs e → is_row_of a b e ≡ true → pairs a b ≡ Some e.0
    known_number e k p =
        let q = and_parts (bytes_eq e.1.intent.topic a) (bytes_eq e.1.intent.callback b) p in
        subst (λ x. pairs x b ≡ Some e.0) (bytes_from_eq _ _ q.0) (subst (λ y. pairs e.1.intent.topic y ≡ Some e.0) (bytes_from_eq _ _ q.1) k.indexed)

    number_there : (n : ℕ) (o : Option Lease) → pairs a b ≡ Some n → lease_at n m.entries ≡ o → IsSomeAnd o (IsPair a b) → number_of_pair a b m.entries ≡ Some n
    number_there n None g h k = elim k [ ]
    number_there n (Some l) g h k =
        find_one (is_row_of a b) n m.entries (all_weaker (IsKnown m.entries pairs) (λ e. is_row_of a b e ≡ true → e.0 ≡ n) (λ e k r. let s = known_number e k r in cc) m.entries entries_known)
        (any_from_lookup (is_at (nat_cmp n)) (is_row_of a b) l m.entries h (λ _. and_from _ _ ((bytes_eq-Decides _ _).1 k.0) ((bytes_eq-Decides _ _).1 k.1)))

    number_is : (o : Option ℕ) → pairs a b ≡ o → IfSome o (λ n. IsSomeAnd (lease_at n m.entries) (IsPair a b)) → number_of_pair a b m.entries ≡ o
    number_is None g k = ap (option_map (λ e. e.0)) (find_none (is_row_of a b) m.entries (all_weaker (IsKnown m.entries pairs) (λ e. is_row_of a b e ≡ false) (λ e k. false_from_ne_true _ (λ r. let s = known_number e k r in absurd (grind arith))) m.entries entries_known))
    number_is (Some n) g k = number_there n _ g refl k

    -- the number in the index is that of the list
    pub number_of_pair_is : number_of_pair a b m.entries ≡ pairs a b
    number_of_pair_is = number_is (pairs a b) refl (i.found a b)

    module _ (t : ℕ) where
      live_number : (e : ℕ × Lease) → IsKnown m.entries pairs e → is_live_row_of a b t e ≡ true → pairs a b ≡ Some e.0
      live_number e k p = known_number e k (and_parts (is_row_of a b e) (nat_lt t (expiry e.1)) p).0

      by_lease : (n : ℕ) (l : Lease) (c : Bool) → pairs a b ≡ Some n → lease_at n m.entries ≡ Some l → l.intent.topic ≡ a → l.intent.callback ≡ b → nat_lt t (expiry l) ≡ c → live_of_pair a b t m.entries ≡ cond c (Some n) None
      by_lease n l true g h p q c =
          find_one (is_live_row_of a b t) n m.entries (all_weaker (IsKnown m.entries pairs) (λ e. is_live_row_of a b t e ≡ true → e.0 ≡ n) (λ e k r. let s = live_number e k r in cc) m.entries entries_known)
          (any_from_lookup (is_at (nat_cmp n)) (is_live_row_of a b t) l m.entries h (λ k. and_from _ _ (and_from _ _ ((bytes_eq-Decides _ _).1 p) ((bytes_eq-Decides _ _).1 q)) c))
      by_lease n l false g h p q c =
          ap (option_map (λ e. e.0)) (find_none (is_live_row_of a b t) m.entries (all_weaker (IsKnown m.entries pairs) (λ e. is_live_row_of a b t e ≡ false)
          (λ e k. false_from_ne_true _ (λ r.
          let s = live_number e k r in
          let n_is : n ≡ e.0 = cc in
          let there : lease_at n m.entries ≡ Some e.1 = rw n_is k.here in
          let l_is : l ≡ e.1 = cc in
          false≢true (sym c ∙ ap (λ x. nat_lt t (expiry x)) l_is ∙ (and_parts (is_row_of a b e) (nat_lt t (expiry e.1)) r).1))) m.entries entries_known))

      by_number : (n : ℕ) (o : Option Lease) → pairs a b ≡ Some n → lease_at n m.entries ≡ o → IsSomeAnd o (IsPair a b) → live_of_pair a b t m.entries ≡ cond (is_live_at t o) (Some n) None
      by_number n None g h k = elim k [ ]
      by_number n (Some l) g h k = by_lease n l _ g h k.0 k.1 refl

      by_index : (o : Option ℕ) → pairs a b ≡ o → IfSome o (λ n. IsSomeAnd (lease_at n m.entries) (IsPair a b)) → live_of_pair a b t m.entries ≡ still_live t m.entries o
      by_index None g k = ap (option_map (λ e. e.0)) (find_none (is_live_row_of a b t) m.entries (all_weaker (IsKnown m.entries pairs) (λ e. is_live_row_of a b t e ≡ false) (λ e k. false_from_ne_true _ (λ r. let s = live_number e k r in absurd (grind arith))) m.entries entries_known))
      by_index (Some n) g k = by_number n _ g refl k

      -- what the table finds
      pub found_by_index : live_of_pair a b t m.entries ≡ still_live t m.entries (pairs a b)
      found_by_index = by_index (pairs a b) refl (i.found a b)

-- ---- one lease less

cond_none : {X : Type 0} (b : Bool) → ◌≡◌ {A = Option X} (cond b None None) None
cond_none true = refl
cond_none false = refl

module _ (old new : Rows) (pairs pairs' : List ℕ → List ℕ → Option ℕ) (topics topics' : List ℕ → ℕ → Option ℕ) (ends ends' : ℕ → ℕ → Bool)
    (n : ℕ) (l : Lease) (i : IsIndexed old pairs topics ends) (was : lease_at n old ≡ Some l)
    (ordered : IsStrictlySortedBy nat_cmp (keys_of new))
    (rows : (q : ℕ) → lease_at q new ≡ cond (n == q) None (lease_at q old))
    (by_pair : (a b : List ℕ) → pairs' a b ≡ cond (bytes_eq a l.intent.topic && bytes_eq b l.intent.callback) None (pairs a b))
    (by_topic : (a : List ℕ) (q : ℕ) → topics' a q ≡ cond (bytes_eq a l.intent.topic && (n == q)) None (topics a q))
    (to_ends : (x q : ℕ) → ends' x q ≡ cond ((end_of l == x) && (n == q)) false (ends x q)) where
  numbered_less : (q : ℕ) (c : Bool) → IfSome (cond c None (lease_at q old)) (λ x. x.intent.n ≡ q)
  numbered_less q true = tt
  numbered_less q false = i.numbered q

  listed_less : (q : ℕ) (c : Bool) → (n == q) ≡ c → (o : Option Lease) → lease_at q old ≡ o → IfSome (cond c None o) (λ x. pairs' x.intent.topic x.intent.callback ≡ Some q)
  listed_less q true e o k = tt
  listed_less q false e None k = tt
  listed_less q false e (Some x) k =
      let s : pairs x.intent.topic x.intent.callback ≡ Some q = at_some (λ y. pairs y.intent.topic y.intent.callback ≡ Some q) (lease_at q old) x k (i.listed q) in
      one (bytes_eq x.intent.topic l.intent.topic && bytes_eq x.intent.callback l.intent.callback) refl s
    where
      one : (d : Bool) → (bytes_eq x.intent.topic l.intent.topic && bytes_eq x.intent.callback l.intent.callback) ≡ d → pairs x.intent.topic x.intent.callback ≡ Some q → pairs' x.intent.topic x.intent.callback ≡ Some q
      one true d s =
          let r = and_parts (bytes_eq x.intent.topic l.intent.topic) (bytes_eq x.intent.callback l.intent.callback) d in
          let p : x.intent.topic ≡ l.intent.topic = bytes_from_eq _ _ r.0 in
          let t : x.intent.callback ≡ l.intent.callback = bytes_from_eq _ _ r.1 in
          let own : pairs l.intent.topic l.intent.callback ≡ Some n = at_some (λ y. pairs y.intent.topic y.intent.callback ≡ Some n) (lease_at n old) l was (i.listed n) in
          let again : pairs x.intent.topic x.intent.callback ≡ Some n = rw (p, t) own in
          let z : q ≡ n = cc in
          absurd (false≢true (sym e ∙ ap (λ y. n == y) z ∙ number_is_itself n))
      one false d s = rw (by_pair x.intent.topic x.intent.callback, d) s

  found_less : (a b : List ℕ) (d : Bool) → (bytes_eq a l.intent.topic && bytes_eq b l.intent.callback) ≡ d → (o : Option ℕ) → pairs a b ≡ o → IfSome (cond d None o) (λ m. IsSomeAnd (lease_at m new) (IsPair a b))
  found_less a b true e o k = tt
  found_less a b false e None k = tt
  found_less a b false e (Some m) k =
      let s : IsSomeAnd (lease_at m old) (IsPair a b) = at_some (λ y. IsSomeAnd (lease_at y old) (IsPair a b)) (pairs a b) m k (i.found a b) in
      rw (rows m) (one (n == m) refl s)
    where
      one : (c : Bool) → (n == m) ≡ c → IsSomeAnd (lease_at m old) (IsPair a b) → IsSomeAnd (cond c None (lease_at m old)) (IsPair a b)
      one true c s =
          let n_is : n ≡ m = eqb-true n m c in
          let p : IsPair a b l = some_and (IsPair a b) (lease_at m old) l (subst (λ y. lease_at y old ≡ Some l) n_is was) s in
          absurd (false≢true (sym e ∙ and_from _ _ ((bytes_eq-Decides _ _).1 (sym p.0)) ((bytes_eq-Decides _ _).1 (sym p.1))))
      one false c s = s

  topics_less : (a : List ℕ) (q : ℕ) (c : Bool) → (n == q) ≡ c → cond (bytes_eq a l.intent.topic && c) None (topics a q) ≡ end_in a (cond c None (lease_at q old))
  topics_less a q true e = one (bytes_eq a l.intent.topic) refl
    where
      there : topics a q ≡ cond (bytes_eq a l.intent.topic) (Some (end_of l)) None
      there = i.in_topics a q ∙ ap (end_in a) (subst (λ y. lease_at y old ≡ Some l) (eqb-true n q e) was)

      one : (d : Bool) → bytes_eq a l.intent.topic ≡ d → cond (d && true) None (topics a q) ≡ None
      one true k = refl
      one false k = there ∙ ap (λ b. cond b (Some (end_of l)) None) k
  topics_less a q false e = one (bytes_eq a l.intent.topic)
    where
      one : (d : Bool) → cond (d && false) None (topics a q) ≡ end_in a (lease_at q old)
      one true = i.in_topics a q
      one false = i.in_topics a q

  ends_less : (x q : ℕ) (c : Bool) → (n == q) ≡ c → cond ((end_of l == x) && c) false (ends x q) ≡ ends_at x (cond c None (lease_at q old))
  ends_less x q true e = one (end_of l == x) refl
    where
      there : ends x q ≡ (end_of l == x)
      there = i.in_ends x q ∙ ap (ends_at x) (subst (λ y. lease_at y old ≡ Some l) (eqb-true n q e) was)

      one : (d : Bool) → (end_of l == x) ≡ d → cond (d && true) false (ends x q) ≡ false
      one true k = refl
      one false k = there ∙ k
  ends_less x q false e = one (end_of l == x)
    where
      one : (d : Bool) → cond (d && false) false (ends x q) ≡ ends_at x (lease_at q old)
      one true = i.in_ends x q
      one false = i.in_ends x q

  pub indexed_without : IsIndexed new pairs' topics' ends'
  indexed_without =
      record {
        ordered = ordered;
        numbered = λ q. rw (rows q) (numbered_less q (n == q));
        listed = λ q. rw (rows q) (listed_less q _ refl _ refl);
        found = λ a b. rw (by_pair a b) (found_less a b _ refl _ refl);
        in_topics = λ a q. by_topic a q ∙ topics_less a q _ refl ∙ ap (end_in a) (sym (rows q));
        in_ends = λ x q. to_ends x q ∙ ends_less x q _ refl ∙ ap (ends_at x) (sym (rows q));
      }

-- ---- one lease more

pub remove-insert : (n : ℕ) (l : Lease) (es : Rows) → lease_at n es ≡ None → remove_entry (is_at (nat_cmp n)) (insert_entry nat_cmp es n l) ≡ es
remove-insert n l [] e = rw (is_at_number n n, number_is_itself n)
remove-insert n l (x ∷ es) e = one (nat_lt n x.0) refl (n == x.0) refl (remove-insert n l es)
  where
    one : (b : Bool) → nat_lt n x.0 ≡ b → (c : Bool) → (n == x.0) ≡ c → (lease_at n es ≡ None → remove_entry (is_at (nat_cmp n)) (insert_entry nat_cmp es n l) ≡ es) → remove_entry (is_at (nat_cmp n)) (match_ordering (cond b Less (cond c Equal Greater)) ((n, l) ∷ x ∷ es) ((x.0, l) ∷ es) (x ∷ insert_entry nat_cmp es n l)) ≡ x ∷ es
    one true p c q r = rw (is_at_number n n, number_is_itself n)
    one false p true q r = let k : lease_at n (x ∷ es) ≡ Some x.1 = rw (is_at_number n x.0, q) in absurd (grind arith)
    one false p false q r = let k : lease_at n es ≡ None = rw (is_at_number n x.0, q) at e in rw (is_at_number n x.0, q) (ap (λ ys. x ∷ ys) (r k))

module _ (old new : Rows) (pairs pairs' : List ℕ → List ℕ → Option ℕ) (topics topics' : List ℕ → ℕ → Option ℕ) (ends ends' : ℕ → ℕ → Bool)
    (l : Lease) (o : Option ℕ) (i : IsIndexed old pairs topics ends)
    (was : lease_at l.intent.n old ≡ None) (before : pairs l.intent.topic l.intent.callback ≡ o)
    (ordered : IsStrictlySortedBy nat_cmp (keys_of new))
    (rows : (q : ℕ) → lease_at q new ≡ cond (is_it o q) None (cond (l.intent.n == q) (Some l) (lease_at q old)))
    (by_pair : (a b : List ℕ) → pairs' a b ≡ cond (bytes_eq a l.intent.topic && bytes_eq b l.intent.callback) (Some l.intent.n) (pairs a b))
    (by_topic : (a : List ℕ) (q : ℕ) → topics' a q ≡ cond (bytes_eq a l.intent.topic) (cond (is_it o q) None (cond (l.intent.n == q) (Some (end_of l)) (topics a q))) (topics a q))
    (to_ends : (x q : ℕ) → ends' x q ≡ cond (is_it o q && ends_at x (cond (l.intent.n == q) (Some l) (lease_at q old))) false (cond ((end_of l == x) && (l.intent.n == q)) true (ends x q))) where
  it_is : (q : ℕ) (p : Option ℕ) → is_it p q ≡ true → p ≡ Some q
  it_is q None e = absurd (false≢true e)
  it_is q (Some m) e = ap (λ x. Some x) (eqb-true m q e)

  not_it : (q : ℕ) → (o ≡ Some q → ⊥) → is_it o q ≡ false
  not_it q k = false_from_ne_true _ (λ r. k (it_is q o r))

  -- the lease that is replaced is one of the same topic and callback
  old_there : (q : ℕ) → o ≡ Some q → IsSomeAnd (lease_at q old) (IsPair l.intent.topic l.intent.callback)
  old_there q e = at_some (λ y. IsSomeAnd (lease_at y old) (IsPair l.intent.topic l.intent.callback)) (pairs l.intent.topic l.intent.callback) q (before ∙ e) (i.found _ _)

  none_there : IsSomeAnd {T = Lease} None (IsPair l.intent.topic l.intent.callback) → ⊥
  none_there x = elim x [ ]

  new_not_old : (q : ℕ) → o ≡ Some q → l.intent.n ≡ q → ⊥
  new_not_old q s e = none_there (subst (λ z. IsSomeAnd z (IsPair l.intent.topic l.intent.callback)) (ap (λ z. lease_at z old) (sym e) ∙ was) (old_there q s))

  -- a number that is replaced isn't the new one
  apart : (q : ℕ) → is_it o q ≡ true → (l.intent.n == q) ≡ false
  apart q e = false_from_ne_true _ (λ r. new_not_old q (it_is q o e) (eqb-true l.intent.n q r))

  itself_there : pairs' l.intent.topic l.intent.callback ≡ Some l.intent.n
  itself_there = rw (by_pair l.intent.topic l.intent.callback, bytes_are_same l.intent.topic, bytes_are_same l.intent.callback)

  numbered_more : (q : ℕ) (c d : Bool) → (l.intent.n == q) ≡ d → IfSome (cond c None (cond d (Some l) (lease_at q old))) (λ x. x.intent.n ≡ q)
  numbered_more q true d e = tt
  numbered_more q false true e = eqb-true l.intent.n q e
  numbered_more q false false e = i.numbered q

  listed_more : (q : ℕ) (c d : Bool) → is_it o q ≡ c → (l.intent.n == q) ≡ d → (p : Option Lease) → lease_at q old ≡ p → IfSome (cond c None (cond d (Some l) p)) (λ x. pairs' x.intent.topic x.intent.callback ≡ Some q)
  listed_more q true d e k p r = tt
  listed_more q false true e k p r = subst (λ z. pairs' l.intent.topic l.intent.callback ≡ Some z) (eqb-true l.intent.n q k) itself_there
  listed_more q false false e k None r = tt
  listed_more q false false e k (Some x) r =
      one (bytes_eq x.intent.topic l.intent.topic && bytes_eq x.intent.callback l.intent.callback) refl (at_some (λ y. pairs y.intent.topic y.intent.callback ≡ Some q) (lease_at q old) x r (i.listed q))
    where
      one : (v : Bool) → (bytes_eq x.intent.topic l.intent.topic && bytes_eq x.intent.callback l.intent.callback) ≡ v → pairs x.intent.topic x.intent.callback ≡ Some q → pairs' x.intent.topic x.intent.callback ≡ Some q
      one true v s =
          let w = and_parts (bytes_eq x.intent.topic l.intent.topic) (bytes_eq x.intent.callback l.intent.callback) v in
          let p : x.intent.topic ≡ l.intent.topic = bytes_from_eq _ _ w.0 in
          let t : x.intent.callback ≡ l.intent.callback = bytes_from_eq _ _ w.1 in
          let own : pairs l.intent.topic l.intent.callback ≡ Some q = rw (← p, ← t) s in
          let o_is : o ≡ Some q = sym before ∙ own in
          absurd (false≢true (sym e ∙ ap (λ z. is_it z q) o_is ∙ number_is_itself q))
      one false v s = rw (by_pair x.intent.topic x.intent.callback, v) s

  found_more : (a b : List ℕ) (d : Bool) → (bytes_eq a l.intent.topic && bytes_eq b l.intent.callback) ≡ d → (p : Option ℕ) → pairs a b ≡ p → IfSome (cond d (Some l.intent.n) p) (λ m. IsSomeAnd (lease_at m new) (IsPair a b))
  found_more a b true e p k =
      let w = and_parts (bytes_eq a l.intent.topic) (bytes_eq b l.intent.callback) e in
      rw (rows l.intent.n, not_it l.intent.n (λ r. new_not_old l.intent.n r refl), number_is_itself l.intent.n) (sym (bytes_from_eq _ _ w.0), sym (bytes_from_eq _ _ w.1))
  found_more a b false e None k = tt
  found_more a b false e (Some m) k = rw (rows m, not_it m other, not_new) there
    where
      there : IsSomeAnd (lease_at m old) (IsPair a b)
      there = at_some (λ y. IsSomeAnd (lease_at y old) (IsPair a b)) (pairs a b) m k (i.found a b)

      other : o ≡ Some m → ⊥
      other r = both (lease_at m old) there (old_there m r)
        where
          both : (z : Option Lease) → IsSomeAnd z (IsPair a b) → IsSomeAnd z (IsPair l.intent.topic l.intent.callback) → ⊥
          both None x y = elim x [ ]
          both (Some z) x y = false≢true (sym e ∙ and_from _ _ ((bytes_eq-Decides a l.intent.topic).1 (sym x.0 ∙ y.0)) ((bytes_eq-Decides b l.intent.callback).1 (sym x.1 ∙ y.1)))

      not_new : (l.intent.n == m) ≡ false
      not_new = false_from_ne_true _ (λ r. let s : l.intent.n ≡ m = eqb-true l.intent.n m r in none (subst (λ z. IsSomeAnd z (IsPair a b)) (ap (λ z. lease_at z old) (sym s) ∙ was) there))
        where
          none : IsSomeAnd {T = Lease} None (IsPair a b) → ⊥
          none x = elim x [ ]

  -- of another topic than the lease's, what is replaced isn't
  elsewhere : (a : List ℕ) (q : ℕ) → is_it o q ≡ true → bytes_eq a l.intent.topic ≡ false → end_in a (lease_at q old) ≡ None
  elsewhere a q e k = one (lease_at q old) (old_there q (it_is q o e))
    where
      one : (z : Option Lease) → IsSomeAnd z (IsPair l.intent.topic l.intent.callback) → end_in a z ≡ None
      one None x = refl
      one (Some z) x = ap (λ b. cond b (Some (end_of z)) None) (ap (bytes_eq a) x.0 ∙ k)

  topics_more : (a : List ℕ) (q : ℕ) (v c d : Bool) → bytes_eq a l.intent.topic ≡ v → is_it o q ≡ c → (l.intent.n == q) ≡ d
      → cond v (cond c None (cond d (Some (end_of l)) (end_in a (lease_at q old)))) (end_in a (lease_at q old)) ≡ end_in a (cond c None (cond d (Some l) (lease_at q old)))
  topics_more a q true true d k e r = refl
  topics_more a q true false true k e r = rw k
  topics_more a q true false false k e r = refl
  topics_more a q false true d k e r = elsewhere a q e k
  topics_more a q false false true k e r = ap (end_in a) (ap (λ z. lease_at z old) (sym (eqb-true l.intent.n q r)) ∙ was) ∙ sym (ap (λ b. cond b (Some (end_of l)) None) k)
  topics_more a q false false false k e r = refl

  ends_more : (x q : ℕ) (c d : Bool) → is_it o q ≡ c → (l.intent.n == q) ≡ d
      → cond (c && ends_at x (cond d (Some l) (lease_at q old))) false (cond ((end_of l == x) && d) true (ends_at x (lease_at q old))) ≡ ends_at x (cond c None (cond d (Some l) (lease_at q old)))
  ends_more x q true true e r = absurd (false≢true (sym (apart q e) ∙ r))
  ends_more x q true false e r = one (ends_at x (lease_at q old)) (end_of l == x)
    where
      one : (b v : Bool) → cond b false (cond (v && false) true b) ≡ false
      one true v = refl
      one false true = refl
      one false false = refl
  ends_more x q false true e r = rw (ap (λ z. lease_at z old) (sym (eqb-true l.intent.n q r)) ∙ was) (one (end_of l == x))
    where
      one : (v : Bool) → cond (v && true) true false ≡ v
      one true = refl
      one false = refl
  ends_more x q false false e r = one (end_of l == x)
    where
      one : (v : Bool) → cond (v && false) true (ends_at x (lease_at q old)) ≡ ends_at x (lease_at q old)
      one true = refl
      one false = refl

  pub indexed_with : IsIndexed new pairs' topics' ends'
  indexed_with =
      record {
        ordered = ordered;
        numbered = λ q. rw (rows q) (numbered_more q (is_it o q) (l.intent.n == q) refl);
        listed = λ q. rw (rows q) (listed_more q _ _ refl refl _ refl);
        found = λ a b. rw (by_pair a b) (found_more a b _ refl _ refl);
        in_topics = λ a q.
            by_topic a q
            ∙ ap (λ z. cond (bytes_eq a l.intent.topic) (cond (is_it o q) None (cond (l.intent.n == q) (Some (end_of l)) z)) z) (i.in_topics a q)
            ∙ topics_more a q _ _ _ refl refl refl
            ∙ ap (end_in a) (sym (rows q));
        in_ends = λ x q.
            to_ends x q
            ∙ ap (λ z. cond (is_it o q && ends_at x (cond (l.intent.n == q) (Some l) (lease_at q old))) false (cond ((end_of l == x) && (l.intent.n == q)) true z)) (i.in_ends x q)
            ∙ ends_more x q _ _ refl refl
            ∙ ap (ends_at x) (sym (rows q));
      }

  -- what the table has at each number
  number_here : (q : ℕ) (c : Bool) → (l.intent.n == q) ≡ c → (z : Option Lease) → lease_at q old ≡ z → cond (is_it o q) None (cond c (Some l) z) ≡ cond c (Some l) (unless_pair l z)
  number_here q true e z k = rw (not_it q (λ r. new_not_old q r (eqb-true l.intent.n q e)))
  number_here q false e None k = cond_none (is_it o q)
  number_here q false e (Some x) k =
      one (bytes_eq x.intent.topic l.intent.topic && bytes_eq x.intent.callback l.intent.callback) refl (at_some (λ y. pairs y.intent.topic y.intent.callback ≡ Some q) (lease_at q old) x k (i.listed q))
    where
      one : (v : Bool) → (bytes_eq x.intent.topic l.intent.topic && bytes_eq x.intent.callback l.intent.callback) ≡ v → pairs x.intent.topic x.intent.callback ≡ Some q → cond (is_it o q) None (Some x) ≡ cond v None (Some x)
      one true v s =
          let w = and_parts (bytes_eq x.intent.topic l.intent.topic) (bytes_eq x.intent.callback l.intent.callback) v in
          let p : x.intent.topic ≡ l.intent.topic = bytes_from_eq _ _ w.0 in
          let t : x.intent.callback ≡ l.intent.callback = bytes_from_eq _ _ w.1 in
          let own : pairs l.intent.topic l.intent.callback ≡ Some q = rw (← p, ← t) s in
          ap (λ b. cond b None (Some x)) (ap (λ z. is_it z q) (sym before ∙ own) ∙ number_is_itself q)
      one false v s = ap (λ b. cond b None (Some x)) (not_it q (λ r.
          let u : IsPair l.intent.topic l.intent.callback x = some_and (IsPair l.intent.topic l.intent.callback) (lease_at q old) x k (old_there q r) in
          false≢true (sym v ∙ and_from _ _ ((bytes_eq-Decides _ _).1 u.0) ((bytes_eq-Decides _ _).1 u.1))))

  pub number_after : (q : ℕ) → lease_at q new ≡ cond (l.intent.n == q) (Some l) (unless_pair l (lease_at q old))
  number_after q = rows q ∙ number_here q _ refl _ refl

-- the number that is replaced is looked up in the old rows as in those with the new lease
pub still_live_without : (old mid : Rows) (pairs : List ℕ → List ℕ → Option ℕ) (topics : List ℕ → ℕ → Option ℕ) (ends : ℕ → ℕ → Bool) (l : Lease) (o : Option ℕ) (t : ℕ)
    → IsIndexed old pairs topics ends → lease_at l.intent.n old ≡ None → pairs l.intent.topic l.intent.callback ≡ o
    → ((q : ℕ) → lease_at q mid ≡ cond (l.intent.n == q) (Some l) (lease_at q old)) → still_live t mid o ≡ still_live t old o
still_live_without old mid pairs topics ends l None t i was before inserted = refl
still_live_without old mid pairs topics ends l (Some m) t i was before inserted =
    ap (λ z. cond (is_live_at t z) (Some m) None) (inserted m ∙ ap (λ b. cond b (Some l) (lease_at m old)) apart)
  where
    there : IsSomeAnd (lease_at m old) (IsPair l.intent.topic l.intent.callback)
    there = at_some (λ y. IsSomeAnd (lease_at y old) (IsPair l.intent.topic l.intent.callback)) (pairs l.intent.topic l.intent.callback) m before (i.found _ _)

    none : IsSomeAnd {T = Lease} None (IsPair l.intent.topic l.intent.callback) → ⊥
    none x = elim x [ ]

    apart : (l.intent.n == m) ≡ false
    apart = false_from_ne_true _ (λ r. none (subst (λ z. IsSomeAnd z (IsPair l.intent.topic l.intent.callback)) (ap (λ z. lease_at z old) (sym (eqb-true l.intent.n m r)) ∙ was) there))
