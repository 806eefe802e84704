-- Maps whose keys are vectors of bytes, read by lists of bytes.
use Rattle.std.proofs.Common.{◌≡◌, ℕ, Bool, true, false, cond, ◌&&◌, List, refl, ap, sym, ◌∙◌, subst, Option}
use Rattle.std.specs.Prelude.{bytes_eq, Vec}
use Rattle.std.specs.declared.cmp.Ordering.{Ordering}
use Rattle.std.specs.Option.{option_and_then}
use Rattle.std.specs.Map.{KeepsOthers}
use Rattle.std.specs.BTreeMap.{BTreeMap, get_by, UpdatesBy}
use Rattle.std.specs.Ordering.{nat_cmp, is_eq}
use Rattle.std.specs.Cmp.Lexicographic.{slice_cmp}
use Rattle.std.proofs.lemmas.Map.Text.{is_eq-slice_cmp}
use Rattle.std.proofs.lemmas.Slice.Eq.{bytes_eq-Decides}
use Rattle.std.proofs.lemmas.Bool.{false≢true, false_from_ne_true}

pub bytes_from_eq : (a b : List ℕ) → bytes_eq a b ≡ true → a ≡ b
bytes_from_eq a b e = (bytes_eq-Decides a b).0 e

-- how a list of bytes compares to a key
abbrev pub at_bytes : {Y : Type 0} → List ℕ → Vec ℕ Y → Ordering
at_bytes bytes key = slice_cmp nat_cmp bytes key.items

-- how keys compare
abbrev pub by_bytes : {Y : Type 0} → Vec ℕ Y → Vec ℕ Y → Ordering
by_bytes x y = slice_cmp nat_cmp x.items y.items

-- what a list of bytes finds after a change at the key of these bytes
pub updates_at : {Y X : Type 0} (bytes : List ℕ) (m n : BTreeMap (Vec ℕ Y) X) (w : Option X)
    → UpdatesBy by_bytes (at_bytes bytes) m n w
    → (a : List ℕ) → get_by (at_bytes a) n ≡ cond (bytes_eq a bytes) w (get_by (at_bytes a) m)
unfolding KeepsOthers
updates_at {Y = Y} {X = X} bytes m n w u a = by_test (bytes_eq a bytes) refl
  where
    at : List ℕ → Vec ℕ Y → Bool
    at b key = is_eq (slice_cmp nat_cmp b key.items)

    at_same : (b : List ℕ) (key : Vec ℕ Y) → is_eq (slice_cmp nat_cmp b key.items) ≡ true → b ≡ key.items
    at_same b key e = bytes_from_eq b key.items (sym (is_eq-slice_cmp b key.items) ∙ e)

    by_test : (t : Bool) → bytes_eq a bytes ≡ t → get_by (λ key. slice_cmp nat_cmp a key.items) n ≡ cond t w (get_by (λ key. slice_cmp nat_cmp a key.items) m)
    by_test true e = subst (λ b. get_by (λ key. slice_cmp nat_cmp b key.items) n ≡ w) (sym (bytes_from_eq a bytes e)) u.1
    by_test false e =
        u.3 (λ key. is_eq (slice_cmp nat_cmp a key.items))
        (λ x y k. ap (λ b. is_eq (slice_cmp nat_cmp b y.items)) (at_same a x k))
        (λ key p. false_from_ne_true _ (λ q. false≢true (sym e ∙ (bytes_eq-Decides a bytes).1 (at_same a key q ∙ sym (at_same bytes key p)))))

cond_through : {X Z : Type 0} (f : X → Option Z) (t : Bool) (q o : Option X) → option_and_then f (cond t q o) ≡ cond t (option_and_then f q) (option_and_then f o)
cond_through f true q o = refl
cond_through f false q o = refl

cond_and : {Z : Type 0} (t c : Bool) (w o : Option Z) → cond t (cond c w o) o ≡ cond (t && c) w o
cond_and true c w o = refl
cond_and false c w o = refl

cond_same : {Z : Type 0} (t : Bool) (o : Option Z) → cond t o o ≡ o
cond_same true o = refl
cond_same false o = refl

-- what is read through the value at a key, after a change there
pub changed_through : {Y X Z : Type 0} (f : X → Option Z) (bytes : List ℕ) (m n : BTreeMap (Vec ℕ Y) X) (q : Option X) (g : Option Z → Option Z)
    → UpdatesBy by_bytes (at_bytes bytes) m n q → option_and_then f q ≡ g (option_and_then f (get_by (at_bytes bytes) m))
    → (a : List ℕ) → option_and_then f (get_by (at_bytes a) n) ≡ cond (bytes_eq a bytes) (g (option_and_then f (get_by (at_bytes a) m))) (option_and_then f (get_by (at_bytes a) m))
changed_through {Y = Y} {X = X} {Z = Z} f bytes m n q g u e a =
    ap (option_and_then f) (updates_at bytes m n q u a) ∙ cond_through f (bytes_eq a bytes) q (get_by (at_bytes a) m) ∙ by_test (bytes_eq a bytes) refl
  where
    read : List ℕ → Option Z
    read b = option_and_then f (get_by (λ key. slice_cmp nat_cmp b key.items) m)

    by_test : (t : Bool) → bytes_eq a bytes ≡ t → cond t (option_and_then f q) (read a) ≡ cond t (g (read a)) (read a)
    by_test true k = e ∙ ap (λ b. g (read b)) (sym (bytes_from_eq a bytes k))
    by_test false k = refl

-- the same, where the change is to one value under a condition
pub changed_where : {Y X Z : Type 0} (f : X → Option Z) (bytes : List ℕ) (m n : BTreeMap (Vec ℕ Y) X) (q : Option X) (c : Bool) (w : Option Z)
    → UpdatesBy by_bytes (at_bytes bytes) m n q → option_and_then f q ≡ cond c w (option_and_then f (get_by (at_bytes bytes) m))
    → (a : List ℕ) → option_and_then f (get_by (at_bytes a) n) ≡ cond (bytes_eq a bytes && c) w (option_and_then f (get_by (at_bytes a) m))
changed_where f bytes m n q c w u e a = changed_through f bytes m n q (λ o. cond c w o) u e a ∙ cond_and (bytes_eq a bytes) c w _

-- the same, where nothing is read otherwise
pub same_through : {Y X Z : Type 0} (f : X → Option Z) (bytes : List ℕ) (m n : BTreeMap (Vec ℕ Y) X) (q : Option X)
    → UpdatesBy by_bytes (at_bytes bytes) m n q → option_and_then f q ≡ option_and_then f (get_by (at_bytes bytes) m)
    → (a : List ℕ) → option_and_then f (get_by (at_bytes a) n) ≡ option_and_then f (get_by (at_bytes a) m)
same_through f bytes m n q u e a = changed_through f bytes m n q (λ o. o) u e a ∙ cond_same (bytes_eq a bytes) _
