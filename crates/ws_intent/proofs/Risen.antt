-- Two lists of rising numbers that have the same numbers are equal, and the numbers of rows.
use Rattle.std.proofs.Common.{◌≡◌, ℕ, ◌<◌, Bool, true, false, cond, ◌||◌, List, [], ◌∷◌, refl, ap, sym, ◌∙◌, subst, arith, inl, inr}
use Rattle.std.specs.Prelude.{Option, Some, None, filter, ◌==◌}
use Rattle.std.specs.List.{AllByRecursion, list_any}
use Rattle.std.specs.List.Sorted.{IsStrictlySortedBy}
use Rattle.std.specs.Map.{keys_of}
use Rattle.std.specs.BTreeMap.{is_at}
use Rattle.std.specs.Ordering.{nat_cmp}
use Rattle.std.specs.declared.cmp.Ordering.TheVariants.{Less}
use Rattle.std.proofs.lemmas.Bool.Decides.{nat_tests}
use Rattle.std.proofs.lemmas.Bool.{or_left, or_right, or_cases, eqb-true, false≢true}
use Rattle.std.proofs.lemmas.Map.Keys.{sorted_head, sorted_tail}
use Rattle.ws_laws.proofs.ListLaws.{all_weaker}
use Rattle.ws_intent.specs.Rising.{IsRising, has_number}
use Rattle.ws_intent.specs.Rows.{number_at}
use Rattle.ws_intent.proofs.Rises.{itself, not_in}

-- ---- equal lists

pub member : (P : ℕ → Type 0) (xs : List ℕ) (q : ℕ) → AllByRecursion P xs → has_number xs q ≡ true → P q
member P [] q a k = absurd (false≢true k)
member P (x ∷ xs) q a k = elim (or_cases (x == q) (has_number xs q) k) [ inl e ↦ subst P (eqb-true x q e) a.0 | inr r ↦ member P xs q a.1 r ]

same_head : (x y : ℕ) (xs ys : List ℕ) → IsRising (x ∷ xs) → IsRising (y ∷ ys) → has_number (y ∷ ys) x ≡ true → has_number (x ∷ xs) y ≡ true → x ≡ y
same_head x y xs ys r s k l = elim (or_cases (y == x) (has_number ys x) k) [
  | inl e ↦ sym (eqb-true y x e)
  | inr a ↦ elim (or_cases (x == y) (has_number xs y) l) [
    | inl e ↦ eqb-true x y e
    | inr b ↦ let c : y < x = member (λ z. y < z) ys x s.0 a in let d : x < y = member (λ z. x < z) xs y r.0 b in absurd (omega arith)
  ]
]

pub same_rising : (xs ys : List ℕ) → IsRising xs → IsRising ys → ((q : ℕ) → has_number xs q ≡ has_number ys q) → xs ≡ ys
same_rising [] [] r s f = refl
same_rising [] (y ∷ ys) r s f = absurd (false≢true (f y ∙ or_left _ _ (itself y)))
same_rising (x ∷ xs) [] r s f = absurd (false≢true (sym (f x) ∙ or_left _ _ (itself x)))
same_rising (x ∷ xs) (y ∷ ys) r s f = rw head (ap (λ zs. y ∷ zs) (same_rising xs ys r.1 s.1 (λ q. tail q (x == q) refl)))
  where
    head : x ≡ y
    head = same_head x y xs ys r s (sym (f x) ∙ or_left _ _ (itself x)) (f y ∙ or_left _ _ (itself y))

    tail : (q : ℕ) (b : Bool) → (x == q) ≡ b → has_number xs q ≡ has_number ys q
    tail q true e = not_in x q xs r.0 e ∙ sym (not_in y q ys s.0 (ap (λ z. z == q) (sym head) ∙ e))
    tail q false e = sym (ap (λ b. b || has_number xs q) e) ∙ f q ∙ ap (λ b. b || has_number ys q) (ap (λ z. z == q) (sym head) ∙ e)

-- ---- rows

less : (x y : ℕ) → nat_cmp x y ≡ Less → x < y
less x y e = grind (arith, nat_tests)

pub risen : (ks : List ℕ) → IsStrictlySortedBy nat_cmp ks → IsRising ks
risen [] s = tt
risen (k ∷ ks) s = (all_weaker (λ y. nat_cmp k y ≡ Less) (λ (y : ℕ). k < y) (λ y e. less k y e) ks (sorted_head nat_cmp k ks s), risen ks (sorted_tail nat_cmp k ks s))

pub at_key : (n k : ℕ) → is_at (nat_cmp n) k ≡ true → n ≡ k
at_key n k e = grind (arith, nat_tests)

at_itself : (n : ℕ) → is_at (nat_cmp n) n ≡ true
at_itself n = grind (arith, nat_tests)

at_above : (n k : ℕ) → k < n → is_at (nat_cmp n) k ≡ false
at_above n k l = grind (arith, nat_tests)

at_below : (n k : ℕ) → n < k → is_at (nat_cmp n) k ≡ false
at_below n k l = grind (arith, nat_tests)

module _ {X : Type 0} where
  none_above : (q : ℕ) (es : List (ℕ × X)) → AllByRecursion (λ (k : ℕ). q < k) (keys_of es) → number_at q es ≡ None
  none_above q [] a = refl
  none_above q (e ∷ es) a = ap (λ b. cond b (Some e.1) (number_at q es)) (at_below q e.0 a.0) ∙ none_above q es a.1

  stays_found : (e : ℕ × X) (es fs : List (ℕ × X)) → AllByRecursion (λ (k : ℕ). e.0 < k) (keys_of fs) → AllByRecursion (λ (f : ℕ × X). number_at f.0 es ≡ Some f.1) fs → AllByRecursion (λ (f : ℕ × X). number_at f.0 (e ∷ es) ≡ Some f.1) fs
  stays_found e es [] a b = tt
  stays_found e es (f ∷ fs) a b = (ap (λ c. cond c (Some e.1) (number_at f.0 es)) (at_above f.0 e.0 a.0) ∙ b.0, stays_found e es fs a.1 b.1)

  -- each row is found at its number
  pub rows_found : (es : List (ℕ × X)) → IsRising (keys_of es) → AllByRecursion (λ (e : ℕ × X). number_at e.0 es ≡ Some e.1) es
  rows_found [] r = tt
  rows_found (e ∷ es) r = (ap (λ b. cond b (Some e.1) (number_at e.0 es)) (at_itself e.0), stays_found e es es r.0 (rows_found es r.1))

  -- a row that passes a test
  pub row_passes : (p : ℕ) (v : X) (test : ℕ × X → Bool) (es : List (ℕ × X)) → number_at p es ≡ Some v → test (p, v) ≡ true → list_any test es ≡ true
  row_passes p v test [] e k = absurd (grind arith)
  row_passes p v test (x ∷ es) e k = by (is_at (nat_cmp p) x.0) refl e (λ f. row_passes p v test es f k)
    where
      by : (b : Bool) → is_at (nat_cmp p) x.0 ≡ b → cond b (Some x.1) (number_at p es) ≡ Some v → (number_at p es ≡ Some v → list_any test es ≡ true) → list_any test (x ∷ es) ≡ true
      by true s f r = or_left _ _ (subst (λ n. test (n, x.1) ≡ true) (at_key p x.0 s) (subst (λ y. test (p, y) ≡ true) (let t : v ≡ x.1 = cc in t) k))
      by false s f r = or_right (test x) _ (r f)

  abbrev pub passes : (ℕ × X → Bool) → ℕ → Option X → Bool
  passes p q None = false
  passes p q (Some x) = p (q, x)

  keys_after : (P : ℕ → Type 0) (p : ℕ × X → Bool) (es : List (ℕ × X)) → AllByRecursion P (keys_of es) → AllByRecursion P (keys_of (filter p es))
  keys_after P p [] a = tt
  keys_after P p (e ∷ es) a = by (p e) (keys_after P p es a.1)
    where
      by : (b : Bool) → AllByRecursion P (keys_of (filter p es)) → AllByRecursion P (keys_of (cond b (e ∷ filter p es) (filter p es)))
      by true k = (a.0, k)
      by false k = k

  pub filter_rising : (p : ℕ × X → Bool) (es : List (ℕ × X)) → IsRising (keys_of es) → IsRising (keys_of (filter p es))
  filter_rising p [] r = tt
  filter_rising p (e ∷ es) r = by (p e) (filter_rising p es r.1)
    where
      by : (b : Bool) → IsRising (keys_of (filter p es)) → IsRising (keys_of (cond b (e ∷ filter p es) (filter p es)))
      by true k = (keys_after (λ (y : ℕ). e.0 < y) p es r.0, k)
      by false k = k

  -- the numbers of the rows that pass
  pub filter_has : (p : ℕ × X → Bool) (q : ℕ) (es : List (ℕ × X)) → IsRising (keys_of es) → has_number (keys_of (filter p es)) q ≡ passes p q (number_at q es)
  filter_has p q [] r = refl
  filter_has p q (e ∷ es) r = by (p e) refl (is_at (nat_cmp q) e.0) refl (filter_has p q es r.1)
    where
      is_key : (a b : ℕ) → is_at (nat_cmp a) b ≡ true → (b == a) ≡ true
      is_key a b k = grind (arith, nat_tests)

      no_key : (a b : ℕ) → is_at (nat_cmp a) b ≡ false → (b == a) ≡ false
      no_key a b k = grind (arith, nat_tests)

      by : (b : Bool) → p e ≡ b → (c : Bool) → is_at (nat_cmp q) e.0 ≡ c → has_number (keys_of (filter p es)) q ≡ passes p q (number_at q es) → has_number (keys_of (cond b (e ∷ filter p es) (filter p es))) q ≡ passes p q (cond c (Some e.1) (number_at q es))
      by true k true c h = or_left _ _ (is_key q e.0 c) ∙ sym k ∙ ap (λ n. p (n, e.1)) (sym (at_key q e.0 c))
      by true k false c h = ap (λ x. x || has_number (keys_of (filter p es)) q) (no_key q e.0 c) ∙ h
      by false k true c h =
          h ∙ ap (passes p q) (subst (λ n. number_at n es ≡ None) (sym (at_key q e.0 c)) (none_above e.0 es r.0))
          ∙ sym k ∙ ap (λ n. p (n, e.1)) (sym (at_key q e.0 c))
      by false k false c h = h
