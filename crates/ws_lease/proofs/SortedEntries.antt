-- Lists of entries whose keys are numbers that rise.
use Rattle.std.proofs.Common.{◌≡◌, ℕ, ◌≤◌, Bool, true, false, cond, ◌&&◌, ◌||◌, List, [], ◌∷◌, refl, ap, sym, ◌∙◌, Option, Some, None, arith}
use Rattle.std.specs.Prelude.{map, filter, ◌==◌}
use Rattle.std.specs.List.{AllByRecursion, list_any}
use Rattle.std.specs.List.Sorted.{IsStrictlySortedBy}
use Rattle.std.specs.Map.{lookup, keys_of}
use Rattle.std.specs.BTreeMap.{is_at}
use Rattle.std.specs.Ordering.{nat_cmp}
use Rattle.std.specs.declared.cmp.Ordering.{Ordering}
use Rattle.std.specs.declared.cmp.Ordering.TheVariants.{Less, Equal, Greater}
use Rattle.std.proofs.lemmas.Bool.{false≢true, eqb-true}
use Rattle.std.proofs.lemmas.Bool.Decides.{nat_tests}
use Rattle.ws_laws.proofs.ListLaws.{all_weaker}

abbrev pub passes : {X : Type 0} → (X → Bool) → Option X → Bool
passes p None = false
passes p (Some x) = p x

is_at_number : (n m : ℕ) → is_at (nat_cmp n) m ≡ (n == m)
is_at_number n m = grind (arith, nat_tests)

turned : (m n : ℕ) → (m == n) ≡ (n == m)
turned m n = grind (arith, nat_tests)

below_apart : (k n m : ℕ) → nat_cmp k m ≡ Less → n ≤ k → (m == n) ≡ false
below_apart k n m e le = grind (arith, nat_tests)

below_not : (k m : ℕ) → nat_cmp k m ≡ Less → (k == m) ≡ false
below_not k m e = grind (arith, nat_tests)

any_none : {X : Type 0} (q : X → Bool) (xs : List X) → AllByRecursion (λ x. q x ≡ false) xs → list_any q xs ≡ false
any_none q [] a = refl
any_none q (x ∷ xs) a = rw a.0 (any_none q xs a.1)

-- ---- two lists that rise and have the same numbers are one

absent : (n k : ℕ) (ks : List ℕ) → AllByRecursion (λ m. nat_cmp k m ≡ Less) ks → n ≤ k → list_any (λ m. m == n) ks ≡ false
absent n k ks a le = any_none (λ m. m == n) ks (all_weaker (λ m. nat_cmp k m ≡ Less) (λ m. (m == n) ≡ false) (λ m e. below_apart k n m e le) ks a)

here : (n : ℕ) (ks : List ℕ) → list_any (λ m. m == n) (n ∷ ks) ≡ true
here n ks = rw (let e : (n == n) ≡ true = grind (arith, nat_tests) in e)

pub same_numbers : (xs ys : List ℕ) → IsStrictlySortedBy nat_cmp xs → IsStrictlySortedBy nat_cmp ys → ((n : ℕ) → list_any (λ m. m == n) xs ≡ list_any (λ m. m == n) ys) → xs ≡ ys
unfolding IsStrictlySortedBy
same_numbers [] [] s u f = refl
same_numbers [] (y ∷ ys) s u f = absurd (false≢true (f y ∙ here y ys))
same_numbers (x ∷ xs) [] s u f = absurd (false≢true (sym (f x) ∙ here x xs))
same_numbers (x ∷ xs) (y ∷ ys) s u f = one (nat_cmp x y) refl (λ g. same_numbers xs ys s.1 u.1 g)
  where
    less : nat_cmp x y ≡ Less → (x == y) ≡ false
    less e = below_not x y e

    more : nat_cmp x y ≡ Greater → (y == x) ≡ false
    more e = grind (arith, nat_tests)

    before : nat_cmp x y ≡ Less → x ≤ y
    before e = grind (arith, nat_tests)

    after : nat_cmp x y ≡ Greater → y ≤ x
    after e = grind (arith, nat_tests)

    one : (o : Ordering) → nat_cmp x y ≡ o → (((n : ℕ) → list_any (λ m. m == n) xs ≡ list_any (λ m. m == n) ys) → xs ≡ ys) → x ∷ xs ≡ y ∷ ys
    one Less e again = absurd (false≢true (sym (ap (λ b. b || list_any (λ m. m == x) ys) (turned y x ∙ less e) ∙ absent x y ys u.0 (before e)) ∙ sym (f x) ∙ here x xs))
    one Greater e again = absurd (false≢true (sym (ap (λ b. b || list_any (λ m. m == y) xs) (turned x y ∙ more e) ∙ absent y x xs s.0 (after e)) ∙ f y ∙ here y ys))
    one Equal e again = (λ i. same i ∷ rest i)
      where
        same : x ≡ y
        same = grind (arith, nat_tests)

        tail : (n : ℕ) (b : Bool) → (x == n) ≡ b → list_any (λ m. m == n) xs ≡ list_any (λ m. m == n) ys
        tail n true k =
            let n_is : x ≡ n = eqb-true x n k in
            absent n x xs s.0 (let g : n ≤ x = grind arith in g) ∙ sym (absent n y ys u.0 (let g : n ≤ y = grind arith in g))
        tail n false k = ap (λ b. b || list_any (λ m. m == n) xs) (sym k) ∙ f n ∙ ap (λ b. b || list_any (λ m. m == n) ys) (ap (λ z. z == n) (sym same) ∙ k)

        rest : xs ≡ ys
        rest = again (λ n. tail n (x == n) refl)

-- ---- what a filter leaves

from_keys : {X : Type 0} (P : ℕ → Type 0) (es : List (ℕ × X)) → AllByRecursion P (keys_of es) → AllByRecursion (λ e. P e.0) es
from_keys P [] a = tt
from_keys P (e ∷ es) a = (a.0, from_keys P es a.1)

keys_where : {X : Type 0} (P : ℕ → Type 0) (q : ℕ × X → Bool) (es : List (ℕ × X)) → AllByRecursion P (keys_of es) → AllByRecursion P (keys_of (filter q es))
keys_where P q [] a = tt
keys_where P q (e ∷ es) a = one (q e) (keys_where P q es a.1)
  where
    one : (b : Bool) → AllByRecursion P (keys_of (filter q es)) → AllByRecursion P (keys_of (cond b (e ∷ filter q es) (filter q es)))
    one true r = (a.0, r)
    one false r = r

pub sorted_where : {X : Type 0} (q : ℕ × X → Bool) (es : List (ℕ × X)) → IsStrictlySortedBy nat_cmp (keys_of es) → IsStrictlySortedBy nat_cmp (keys_of (filter q es))
unfolding IsStrictlySortedBy
sorted_where q [] s = tt
sorted_where q (e ∷ es) s = one (q e) (sorted_where q es s.1)
  where
    one : (b : Bool) → IsStrictlySortedBy nat_cmp (keys_of (filter q es)) → IsStrictlySortedBy nat_cmp (keys_of (cond b (e ∷ filter q es) (filter q es)))
    one true r = (keys_where (λ m. nat_cmp e.0 m ≡ Less) q es s.0, r)
    one false r = r

-- ---- whether an entry of a number passes

pub any_filter : {X : Type 0} (q p : X → Bool) (xs : List X) → list_any q (filter p xs) ≡ list_any (λ x. p x && q x) xs
any_filter q p [] = refl
any_filter q p (x ∷ xs) = one (p x) (any_filter q p xs)
  where
    one : (b : Bool) → list_any q (filter p xs) ≡ list_any (λ y. p y && q y) xs → list_any q (cond b (x ∷ filter p xs) (filter p xs)) ≡ ((b && q x) || list_any (λ y. p y && q y) xs)
    one true r = ap (λ z. q x || z) r
    one false r = r

pub any_map : {X Y : Type 0} (q : Y → Bool) (f : X → Y) (xs : List X) → list_any q (map f xs) ≡ list_any (λ x. q (f x)) xs
any_map q f [] = refl
any_map q f (x ∷ xs) = ap (λ z. q (f x) || z) (any_map q f xs)

pub any_same : {X : Type 0} (p q : X → Bool) (xs : List X) → ((x : X) → p x ≡ q x) → list_any p xs ≡ list_any q xs
any_same p q [] f = refl
any_same p q (x ∷ xs) f = rw (f x, any_same p q xs f)

and_false : (b : Bool) → (b && false) ≡ false
and_false true = refl
and_false false = refl

pub any_entry : {X : Type 0} (g : X → Bool) (n : ℕ) (es : List (ℕ × X)) → IsStrictlySortedBy nat_cmp (keys_of es) → list_any (λ e. g e.1 && (e.0 == n)) es ≡ passes g (lookup (is_at (nat_cmp n)) es)
unfolding IsStrictlySortedBy
any_entry g n [] s = refl
any_entry {X = X} g n (e ∷ es) s = one (e.0 == n) refl (any_entry g n es s.1)
  where
    at : is_at (nat_cmp n) e.0 ≡ (e.0 == n)
    at = is_at_number n e.0 ∙ turned n e.0

    none : (e.0 == n) ≡ true → list_any (λ x. g x.1 && (x.0 == n)) es ≡ false
    none k =
        any_none (λ x. g x.1 && (x.0 == n)) es
        (all_weaker (λ x. nat_cmp e.0 x.0 ≡ Less) (λ x. (g x.1 && (x.0 == n)) ≡ false)
        (λ x r. ap (λ b. g x.1 && b) (below_apart e.0 n x.0 r (let n_is : e.0 ≡ n = eqb-true e.0 n k in let z : n ≤ e.0 = grind arith in z)) ∙ and_false (g x.1))
        es (from_keys (λ m. nat_cmp e.0 m ≡ Less) es s.0))

    or_none : (b : Bool) → (b || false) ≡ b
    or_none true = refl
    or_none false = refl

    and_one : (b : Bool) → (b && true) ≡ b
    and_one true = refl
    and_one false = refl

    one : (b : Bool) → (e.0 == n) ≡ b → list_any (λ x. g x.1 && (x.0 == n)) es ≡ passes g (lookup (is_at (nat_cmp n)) es) → ((g e.1 && (e.0 == n)) || list_any (λ x. g x.1 && (x.0 == n)) es) ≡ passes g (cond (is_at (nat_cmp n) e.0) (Some e.1) (lookup (is_at (nat_cmp n)) es))
    one true k r =
        ap (λ z. (g e.1 && (e.0 == n)) || z) (none k) ∙ or_none _ ∙ ap (λ b. g e.1 && b) k ∙ and_one (g e.1)
        ∙ ap (λ b. passes g (cond b (Some e.1) (lookup (is_at (nat_cmp n)) es))) (sym (at ∙ k))
    one false k r =
        ap (λ b. (g e.1 && b) || list_any (λ x. g x.1 && (x.0 == n)) es) k ∙ ap (λ b. b || list_any (λ x. g x.1 && (x.0 == n)) es) (and_false (g e.1))
        ∙ r ∙ ap (λ b. passes g (cond b (Some e.1) (lookup (is_at (nat_cmp n)) es))) (sym (at ∙ k))

-- the numbers of the entries that pass
pub any_number : {X : Type 0} (g : X → Bool) (n : ℕ) (es : List (ℕ × X)) → IsStrictlySortedBy nat_cmp (keys_of es)
    → list_any (λ m. m == n) (map (λ e. e.0) (filter (λ e. g e.1) es)) ≡ passes g (lookup (is_at (nat_cmp n)) es)
any_number g n es s = any_map (λ m. m == n) (λ e. e.0) (filter (λ e. g e.1) es) ∙ any_filter (λ e. e.0 == n) (λ e. g e.1) es ∙ any_entry g n es s
