-- The index of topics and callbacks and the list of first numbers, after one intent more or less.
use Rattle.std.proofs.Common.{◌≡◌, ℕ, ◌≤◌, ◌<◌, Bool, true, false, cond, not, ◌&&◌, ◌||◌, List, [], ◌∷◌, ◌++◌, refl, ap, sym, ◌∙◌, subst, arith, inl, inr}
use Rattle.std.specs.Prelude.{Option, Some, None, is_none, is_some, IsSome, nat_lt, ◌==◌, bytes_eq}
use Rattle.std.specs.List.{AllByRecursion}
use Rattle.std.proofs.lemmas.Bool.Decides.{nat_tests}
use Rattle.std.proofs.lemmas.Bool.{or_left, or_right, or_cases, and_parts, eqb-true, false≢true, ltb-true}
use Rattle.ws_model.specs.declared.event.Intent.{Intent}
use Rattle.ws_model.specs.Due.{place}
use Rattle.ws_intent.specs.Index.{IsLeast}
use Rattle.ws_intent.specs.Rising.{IsRising, has_number, is_it}
use Rattle.ws_intent.specs.Indexed.{IsFirst, IsTracked, is_of}
use Rattle.ws_intent.proofs.Keyed.{bytes_itself, same}
use Rattle.ws_intent.proofs.Rises.{itself, not_lt, place_last}

unlike : (a b : ℕ) → a < b → (a == b) ≡ false
unlike a b k = grind (arith, nat_tests)

turned : (a b : ℕ) → (a == b) ≡ (b == a)
turned a b = grind (arith, nat_tests)

-- ---- one number more, at the end

below_all : (P : ℕ → Type 0) (xs : List ℕ) → ((q : ℕ) → has_number xs q ≡ true → P q) → AllByRecursion P xs
below_all P [] f = tt
below_all P (x ∷ xs) f = (f x (or_left _ _ (itself x)), below_all P xs (λ q k. f q (or_right _ _ k)))

all_pushed : (P : ℕ → Type 0) (xs : List ℕ) (n : ℕ) → AllByRecursion P xs → P n → AllByRecursion P (xs ++ n ∷ [])
all_pushed P [] n a p = (p, tt)
all_pushed P (x ∷ xs) n a p = (a.0, all_pushed P xs n a.1 p)

pushed_rising : (xs : List ℕ) (n : ℕ) → IsRising xs → AllByRecursion (λ (x : ℕ). x < n) xs → IsRising (xs ++ n ∷ [])
pushed_rising [] n r a = (tt, tt)
pushed_rising (x ∷ xs) n r a = (all_pushed (λ (y : ℕ). x < y) xs n r.0 a.0, pushed_rising xs n r.1 a.1)

or_assoc : (a b c : Bool) → (a || (b || c)) ≡ ((a || b) || c)
or_assoc true b c = refl
or_assoc false b c = refl

or_none : (a : Bool) → (a || false) ≡ a
or_none true = refl
or_none false = refl

pushed_has : (xs : List ℕ) (n q : ℕ) → has_number (xs ++ n ∷ []) q ≡ (has_number xs q || (n == q))
pushed_has [] n q = or_none (n == q)
pushed_has (x ∷ xs) n q = ap (λ b. (x == q) || b) (pushed_has xs n q) ∙ or_assoc (x == q) (has_number xs q) (n == q)

-- ---- tests of a topic, a callback and a number

here_true : (x y r : Bool) → r ≡ false → cond (x && y && true) true r ≡ (x && y)
here_true true true r e = refl
here_true true false r e = e
here_true false y r e = e

here_false : (x y r : Bool) → r ≡ (x && y) → cond (x && y && true) false r ≡ false
here_false true true r e = refl
here_false true false r e = e
here_false false y r e = e

elsewhere : (x y v r : Bool) → cond (x && y && false) v r ≡ r
elsewhere true true v r = refl
elsewhere true false v r = refl
elsewhere false y v r = refl

is_of_some : (a b : List ℕ) (o : Option Intent) → is_of a b o ≡ true → IsSome o
is_of_some a b None k = absurd (false≢true k)
is_of_some a b (Some i) k = refl

both : (a b : Bool) → a ≡ true → b ≡ true → (a && b) ≡ true
both true true x y = refl
both true false x y = y
both false b x y = x

is_of_itself : (i : Intent) → is_of i.topic i.callback (Some i) ≡ true
is_of_itself i = both _ _ (bytes_itself i.topic) (bytes_itself i.callback)

the_some : {X : Type 0} (x y : X) → Some x ≡ Some y → x ≡ y
the_some x y e = let s : x ≡ y = cc in s

some_none : {X : Type 0} (x : X) → None ≡ Some x → ⊥
some_none x e = grind arith

-- ---- the same intents

pub tracked_same : (row new : ℕ → Option Intent) (f g : List ℕ → List ℕ → ℕ → Bool) (xs : List ℕ) → IsTracked row f xs → ((q : ℕ) → new q ≡ row q) → ((a b : List ℕ) (q : ℕ) → g a b q ≡ f a b q) → IsTracked new g xs
tracked_same row new f g xs i e index =
    record {
      indexed = λ a b q. index a b q ∙ i.indexed a b q ∙ ap (is_of a b) (sym (e q));
      rising = i.rising;
      listed = λ q s. i.listed q (record { intent = s.intent; here = sym (e q) ∙ s.here; least = λ p k. s.least p (ap (is_of s.intent.topic s.intent.callback) (e p) ∙ k) });
      least = λ q k. let s = i.least q k in record { intent = s.intent; here = e q ∙ s.here; least = λ p k. s.least p (ap (is_of s.intent.topic s.intent.callback) (sym (e p)) ∙ k) };
    }

-- ---- one intent more, whose number is above all

module _ (row new : ℕ → Option Intent) (f g : List ℕ → List ℕ → ℕ → Bool) (xs : List ℕ) (n : ℕ) (i : Intent) (tracked : IsTracked row f xs)
    (above : (q : ℕ) → IsSome (row q) → q < n)
    (rows : (q : ℕ) → new q ≡ cond (q == n) (Some i) (row q))
    (index : (a b : List ℕ) (q : ℕ) → g a b q ≡ cond (bytes_eq a i.topic && bytes_eq b i.callback && (q == n)) true (f a b q)) where
  row_none : row n ≡ None
  row_none = by (row n) refl
    where
      by : (o : Option Intent) → row n ≡ o → row n ≡ None
      by None e = e
      by (Some j) e = let a : n < n = above n (ap is_some e) in absurd (omega arith)

  new_here : new n ≡ Some i
  new_here = rows n ∙ ap (λ b. cond b (Some i) (row n)) (itself n)

  new_there : (q : ℕ) → (q == n) ≡ false → new q ≡ row q
  new_there q e = rows q ∙ ap (λ b. cond b (Some i) (row q)) e

  indexed_more : (a b : List ℕ) (q : ℕ) → g a b q ≡ is_of a b (new q)
  indexed_more a b q = index a b q ∙ by (q == n) refl
    where
      by : (c : Bool) → (q == n) ≡ c → cond (bytes_eq a i.topic && bytes_eq b i.callback && (q == n)) true (f a b q) ≡ is_of a b (new q)
      by true e =
          let s : q ≡ n = eqb-true q n e in
          ap (λ c. cond (bytes_eq a i.topic && bytes_eq b i.callback && c) true (f a b q)) e
          ∙ here_true (bytes_eq a i.topic) (bytes_eq b i.callback) (f a b q) (tracked.indexed a b q ∙ ap (λ p. is_of a b (row p)) s ∙ ap (is_of a b) row_none)
          ∙ ap (is_of a b) (sym (ap new s ∙ new_here))
      by false e =
          ap (λ c. cond (bytes_eq a i.topic && bytes_eq b i.callback && c) true (f a b q)) e
          ∙ elsewhere (bytes_eq a i.topic) (bytes_eq b i.callback) true (f a b q)
          ∙ tracked.indexed a b q ∙ ap (is_of a b) (sym (new_there q e))

  -- the number of an old one
  old_below : (q : ℕ) → IsFirst row q → q < n
  old_below q s = above q (ap is_some s.here)

  old_first : (q : ℕ) → IsFirst row q → IsFirst new q
  old_first q s = record { intent = s.intent; here = new_there q (unlike q n (old_below q s)) ∙ s.here; least = λ p k. by p k (p == n) refl }
    where
      by : (p : ℕ) → is_of s.intent.topic s.intent.callback (new p) ≡ true → (c : Bool) → (p == n) ≡ c → q ≤ p
      by p k true e = let a : p ≡ n = eqb-true p n e in let b : q < n = old_below q s in omega arith
      by p k false e = s.least p (ap (is_of s.intent.topic s.intent.callback) (sym (new_there p e)) ∙ k)

  first_again : (q : ℕ) → (q == n) ≡ false → IsFirst new q → IsFirst row q
  first_again q e s = record { intent = s.intent; here = sym (new_there q e) ∙ s.here; least = λ p k. s.least p (ap (is_of s.intent.topic s.intent.callback) (new_there p (unlike p n (above p (is_of_some s.intent.topic s.intent.callback (row p) k)))) ∙ k) }

  new_first : ((q : ℕ) → f i.topic i.callback q ≡ false) → IsFirst new n
  new_first none = record { intent = i; here = new_here; least = λ p k. by p k (p == n) refl }
    where
      by : (p : ℕ) → is_of i.topic i.callback (new p) ≡ true → (c : Bool) → (p == n) ≡ c → n ≤ p
      by p k true e = let a : p ≡ n = eqb-true p n e in omega arith
      by p k false e = absurd (false≢true (sym (none p) ∙ tracked.indexed i.topic i.callback p ∙ ap (is_of i.topic i.callback) (sym (new_there p e)) ∙ k))

  -- an earlier one of the same topic and callback
  not_first : (m : ℕ) → f i.topic i.callback m ≡ true → IsFirst new n → ⊥
  not_first m k s =
      let there : is_of i.topic i.callback (row m) ≡ true = sym (tracked.indexed i.topic i.callback m) ∙ k in
      let lower : m < n = above m (is_of_some i.topic i.callback (row m) there) in
      let it : i ≡ s.intent = the_some i s.intent (sym new_here ∙ s.here) in
      let least : n ≤ m = s.least m (subst (λ (j : Intent). is_of j.topic j.callback (new m) ≡ true) it (ap (is_of i.topic i.callback) (new_there m (unlike m n lower)) ∙ there)) in
      absurd (omega arith)

  pub tracked_added : (o : Option ℕ) (ys : List ℕ) → IsLeast (f i.topic i.callback) o → ys ≡ cond (is_none o) (place nat_lt n xs) xs → IsTracked new g ys
  tracked_added None ys none e =
      subst (IsTracked new g) (sym (e ∙ place_last n xs below))
      (record {
        indexed = indexed_more;
        rising = pushed_rising xs n tracked.rising below;
        listed = λ q s. by q s (q == n) refl;
        least = λ q k. elim (or_cases (has_number xs q) (n == q) (sym (pushed_has xs n q) ∙ k)) [
          | inl a ↦ old_first q (tracked.least q a)
          | inr a ↦ subst (IsFirst new) (eqb-true n q a) (new_first none)
        ];
      })
    where
      below : AllByRecursion (λ (x : ℕ). x < n) xs
      below = below_all (λ (x : ℕ). x < n) xs (λ q k. old_below q (tracked.least q k))

      by : (q : ℕ) → IsFirst new q → (c : Bool) → (q == n) ≡ c → has_number (xs ++ n ∷ []) q ≡ true
      by q s true c = pushed_has xs n q ∙ or_right (has_number xs q) (n == q) (turned n q ∙ c)
      by q s false c = pushed_has xs n q ∙ or_left (has_number xs q) (n == q) (tracked.listed q (first_again q c s))
  tracked_added (Some m) ys least e =
      subst (IsTracked new g) (sym e)
      (record {
        indexed = indexed_more;
        rising = tracked.rising;
        listed = λ q s. by q s (q == n) refl;
        least = λ q k. old_first q (tracked.least q k);
      })
    where
      by : (q : ℕ) → IsFirst new q → (c : Bool) → (q == n) ≡ c → has_number xs q ≡ true
      by q s true c = absurd (not_first m least.0 (subst (IsFirst new) (eqb-true q n c) s))
      by q s false c = tracked.listed q (first_again q c s)

-- ---- one intent less

module _ (row new : ℕ → Option Intent) (f g : List ℕ → List ℕ → ℕ → Bool) (xs ys : List ℕ) (n : ℕ) (i : Intent) (o : Option ℕ) (tracked : IsTracked row f xs)
    (was : row n ≡ Some i)
    (rows : (q : ℕ) → new q ≡ cond (q == n) None (row q))
    (index : (a b : List ℕ) (q : ℕ) → g a b q ≡ cond (bytes_eq a i.topic && bytes_eq b i.callback && (q == n)) false (f a b q))
    (next : IsLeast (g i.topic i.callback) o)
    (rising : IsRising ys)
    (lists : (q : ℕ) → has_number ys q ≡ cond (has_number xs n) (is_it o q || (not (n == q) && has_number xs q)) (has_number xs q)) where
  left_here : new n ≡ None
  left_here = rows n ∙ ap (λ b. cond b None (row n)) (itself n)

  left_there : (q : ℕ) → (q == n) ≡ false → new q ≡ row q
  left_there q e = rows q ∙ ap (λ b. cond b None (row q)) e

  -- what is still there isn't n
  is_other : (q : ℕ) → IsSome (new q) → (q == n) ≡ false
  is_other q k = by (q == n) refl
    where
      by : (c : Bool) → (q == n) ≡ c → (q == n) ≡ false
      by true e = absurd (false≢true (sym (ap is_some (ap new (eqb-true q n e) ∙ left_here)) ∙ k))
      by false e = e

  indexed_less : (a b : List ℕ) (q : ℕ) → g a b q ≡ is_of a b (new q)
  indexed_less a b q = index a b q ∙ by (q == n) refl
    where
      by : (c : Bool) → (q == n) ≡ c → cond (bytes_eq a i.topic && bytes_eq b i.callback && (q == n)) false (f a b q) ≡ is_of a b (new q)
      by true e =
          let s : q ≡ n = eqb-true q n e in
          ap (λ c. cond (bytes_eq a i.topic && bytes_eq b i.callback && c) false (f a b q)) e
          ∙ here_false (bytes_eq a i.topic) (bytes_eq b i.callback) (f a b q) (tracked.indexed a b q ∙ ap (λ p. is_of a b (row p)) s ∙ ap (is_of a b) was)
          ∙ ap (is_of a b) (sym (ap new s ∙ left_here))
      by false e =
          ap (λ c. cond (bytes_eq a i.topic && bytes_eq b i.callback && c) false (f a b q)) e
          ∙ elsewhere (bytes_eq a i.topic) (bytes_eq b i.callback) false (f a b q)
          ∙ tracked.indexed a b q ∙ ap (is_of a b) (sym (left_there q e))

  -- one that was first and isn't n
  still_first : (q : ℕ) → (q == n) ≡ false → IsFirst row q → IsFirst new q
  still_first q e s = record { intent = s.intent; here = left_there q e ∙ s.here; least = λ p k. s.least p (ap (is_of s.intent.topic s.intent.callback) (sym (left_there p (is_other p (is_of_some s.intent.topic s.intent.callback (new p) k)))) ∙ k) }

  -- the first one of the topic and callback that is left
  next_first : (m : ℕ) → g i.topic i.callback m ≡ true → ((q : ℕ) → g i.topic i.callback q ≡ true → m ≤ q) → IsFirst new m
  next_first m k least = by (new m) refl
    where
      there : is_of i.topic i.callback (new m) ≡ true
      there = sym (indexed_less i.topic i.callback m) ∙ k

      by : (x : Option Intent) → new m ≡ x → IsFirst new m
      by None e = absurd (false≢true (ap (is_of i.topic i.callback) (sym e) ∙ there))
      by (Some j) e =
          let p = and_parts (bytes_eq i.topic j.topic) (bytes_eq i.callback j.callback) (ap (is_of i.topic i.callback) (sym e) ∙ there) in
          record {
            intent = j;
            here = e;
            least = λ q r. least q (indexed_less i.topic i.callback q ∙ ap (λ a. is_of a i.callback (new q)) (same _ _ p.0) ∙ ap (λ b. is_of j.topic b (new q)) (same _ _ p.1) ∙ r);
          }

  least_less : (q : ℕ) → has_number ys q ≡ true → IsFirst new q
  least_less q k = by (has_number xs n) refl (sym (lists q) ∙ k)
    where
      from_next : (x : Option ℕ) → IsLeast (g i.topic i.callback) x → is_it x q ≡ true → IsFirst new q
      from_next None l e = absurd (false≢true e)
      from_next (Some m) l e = subst (IsFirst new) (eqb-true m q e) (next_first m l.0 l.1)

      not_n : (b : Bool) → (n == q) ≡ b → not b ≡ true → (q == n) ≡ false
      not_n true e r = absurd (false≢true r)
      not_n false e r = turned q n ∙ e

      by : (c : Bool) → has_number xs n ≡ c → cond c (is_it o q || (not (n == q) && has_number xs q)) (has_number xs q) ≡ true → IsFirst new q
      by true e r = elim (or_cases (is_it o q) (not (n == q) && has_number xs q) r) [
        | inl a ↦ from_next o next a
        | inr a ↦ let p = and_parts (not (n == q)) (has_number xs q) a in still_first q (not_n (n == q) refl p.0) (tracked.least q p.1)
      ]
      by false e r = still_first q (other (q == n) refl) (tracked.least q r)
        where
          other : (b : Bool) → (q == n) ≡ b → (q == n) ≡ false
          other true s = absurd (false≢true (sym e ∙ subst (λ x. has_number xs x ≡ true) (eqb-true q n s) r))
          other false s = s

  listed_less : (q : ℕ) → IsFirst new q → has_number ys q ≡ true
  listed_less q s = lists q ∙ by (has_number xs n) refl (bytes_eq s.intent.topic i.topic && bytes_eq s.intent.callback i.callback) refl
    where
      not_n : (q == n) ≡ false
      not_n = is_other q (ap is_some s.here)

      was_here : row q ≡ Some s.intent
      was_here = sym (left_there q not_n) ∙ s.here

      -- of another topic or callback than n
      apart : (bytes_eq s.intent.topic i.topic && bytes_eq s.intent.callback i.callback) ≡ false → has_number xs q ≡ true
      apart e = tracked.listed q (record { intent = s.intent; here = was_here; least = λ p k. least p k (p == n) refl })
        where
          least : (p : ℕ) → is_of s.intent.topic s.intent.callback (row p) ≡ true → (c : Bool) → (p == n) ≡ c → q ≤ p
          least p k true c = absurd (false≢true (sym e ∙ ap (is_of s.intent.topic s.intent.callback) (sym (ap row (eqb-true p n c) ∙ was)) ∙ k))
          least p k false c = s.least p (ap (is_of s.intent.topic s.intent.callback) (left_there p c) ∙ k)

      -- of the topic and callback of n, where n was first
      is_next : (x : Option ℕ) → IsLeast (g i.topic i.callback) x → (bytes_eq s.intent.topic i.topic && bytes_eq s.intent.callback i.callback) ≡ true → is_it x q ≡ true
      is_next x l e = one x l
        where
          p : (bytes_eq s.intent.topic i.topic ≡ true) × (bytes_eq s.intent.callback i.callback ≡ true)
          p = and_parts (bytes_eq s.intent.topic i.topic) (bytes_eq s.intent.callback i.callback) e

          moved : (r : ℕ) → is_of s.intent.topic s.intent.callback (new r) ≡ is_of i.topic i.callback (new r)
          moved r = ap (λ a. is_of a s.intent.callback (new r)) (same _ _ p.0) ∙ ap (λ b. is_of i.topic b (new r)) (same _ _ p.1)

          there : g i.topic i.callback q ≡ true
          there = indexed_less i.topic i.callback q ∙ sym (moved q) ∙ ap (is_of s.intent.topic s.intent.callback) s.here ∙ is_of_itself s.intent

          one : (x : Option ℕ) → IsLeast (g i.topic i.callback) x → is_it x q ≡ true
          one None l = absurd (false≢true (sym (l q) ∙ there))
          one (Some m) l =
              let a : q ≤ m = s.least m (moved m ∙ sym (indexed_less i.topic i.callback m) ∙ l.0) in
              let b : m ≤ q = l.1 q there in
              equal m q (omega arith)
            where
              equal : (m q : ℕ) → m ≡ q → (m == q) ≡ true
              equal m q e = grind (arith, nat_tests)

      -- of the topic and callback of n, where n wasn't first
      behind : has_number xs n ≡ false → has_number xs q ≡ true
      behind e = tracked.listed q (record { intent = s.intent; here = was_here; least = λ p k. least p k (p == n) refl })
        where
          n_first : n < q → is_of s.intent.topic s.intent.callback (Some i) ≡ true → has_number xs n ≡ true
          n_first lower k =
              let r = and_parts (bytes_eq s.intent.topic i.topic) (bytes_eq s.intent.callback i.callback) k in
              tracked.listed n (record { intent = i; here = was; least = λ p j. one p (ap (λ a. is_of a s.intent.callback (row p)) (same _ _ r.0) ∙ ap (λ b. is_of i.topic b (row p)) (same _ _ r.1) ∙ j) (p == n) refl })
            where
              one : (p : ℕ) → is_of s.intent.topic s.intent.callback (row p) ≡ true → (c : Bool) → (p == n) ≡ c → n ≤ p
              one p j true c = let a : p ≡ n = eqb-true p n c in omega arith
              one p j false c = let a : q ≤ p = s.least p (ap (is_of s.intent.topic s.intent.callback) (left_there p c) ∙ j) in omega arith

          least : (p : ℕ) → is_of s.intent.topic s.intent.callback (row p) ≡ true → (c : Bool) → (p == n) ≡ c → q ≤ p
          least p k false c = s.least p (ap (is_of s.intent.topic s.intent.callback) (left_there p c) ∙ k)
          least p k true c = by (nat_lt n q) refl
            where
              at : p ≡ n
              at = eqb-true p n c

              by : (b : Bool) → nat_lt n q ≡ b → q ≤ p
              by true r = absurd (false≢true (sym e ∙ n_first (ltb-true n q r) (ap (is_of s.intent.topic s.intent.callback) (sym (ap row at ∙ was)) ∙ k)))
              by false r = let a : q ≤ n = not_lt n q r in let b : p ≡ n = at in omega arith

      by : (c : Bool) → has_number xs n ≡ c → (d : Bool) → (bytes_eq s.intent.topic i.topic && bytes_eq s.intent.callback i.callback) ≡ d → cond (has_number xs n) (is_it o q || (not (n == q) && has_number xs q)) (has_number xs q) ≡ true
      by true e true d = ap (λ c. cond c (is_it o q || (not (n == q) && has_number xs q)) (has_number xs q)) e ∙ or_left _ _ (is_next o next d)
      by true e false d = ap (λ c. cond c (is_it o q || (not (n == q) && has_number xs q)) (has_number xs q)) e ∙ or_right (is_it o q) (not (n == q) && has_number xs q) (ap (λ c. not c && has_number xs q) (turned n q ∙ not_n) ∙ apart d)
      by false e d k = ap (λ c. cond c (is_it o q || (not (n == q) && has_number xs q)) (has_number xs q)) e ∙ behind e

  pub tracked_without : IsTracked new g ys
  tracked_without = record { indexed = indexed_less; rising = rising; listed = listed_less; least = least_less }
