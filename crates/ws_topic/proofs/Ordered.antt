-- Things in the order of their topics: the same topics, as many.
use Rattle.std.proofs.Common.{◌≡◌, ℕ, suc, Bool, true, false, cond, not, ◌&&◌, ◌||◌, List, [], ◌∷◌, length, refl, ap, sym, ◌∙◌, subst, inl, inr}
use Rattle.std.specs.Prelude.{Option, Some, None, find, map, is_some, bytes_eq}
use Rattle.std.specs.List.{AllByRecursion, list_any}
use Rattle.std.specs.declared.cmp.Ordering.{Ordering}
use Rattle.std.specs.declared.cmp.Ordering.TheVariants.{Less, Equal, Greater}
use Rattle.std.specs.Map.{keys_of, lookup}
use Rattle.std.specs.BTreeMap.{is_at}
use Rattle.std.specs.Ordering.{nat_cmp, is_eq, is_lt, ordering_reverse}
use Rattle.std.specs.Cmp.Lexicographic.{nat_list_cmp_total, slice_cmp}
use Rattle.std.proofs.lemmas.Map.Text.{is_eq-slice_cmp}
use Rattle.std.proofs.lemmas.Bool.{false≢true, false_from_ne_true, or_left, or_from, or_cases}
use Rattle.ws_model.specs.Due.{in_order, place}
use Rattle.ws_laws.proofs.ListLaws.{all_weaker}
use Rattle.ws_topic.specs.ByTopic.{IsAscending, at_topic}
use Rattle.ws_topic.proofs.Keyed.{bytes_itself, same}

abbrev pub has_topic : List (List ℕ) → List ℕ → Bool
has_topic ts q = list_any (λ t. bytes_eq t q) ts

pub turned : (a b : List ℕ) → bytes_eq a b ≡ bytes_eq b a
turned a b = by (bytes_eq a b) refl (bytes_eq b a) refl
  where
    by : (x : Bool) → bytes_eq a b ≡ x → (y : Bool) → bytes_eq b a ≡ y → x ≡ y
    by true p true q = refl
    by true p false q = absurd (false≢true (sym q ∙ subst (λ z. bytes_eq b z ≡ true) (sym (same a b p)) (bytes_itself b)))
    by false p true q = absurd (false≢true (sym p ∙ subst (λ z. bytes_eq a z ≡ true) (sym (same b a q)) (bytes_itself a)))
    by false p false q = refl

order_test : Ordering → Bool
order_test Less = true
order_test _ = false

-- nothing is below itself
pub not_below : (a : List ℕ) → slice_cmp nat_cmp a a ≡ Less → ⊥
not_below a e = absurd (false≢true (by (slice_cmp nat_cmp a a) e (nat_list_cmp_total.antisymm a a)))
  where
    by : (o : Ordering) → o ≡ Less → o ≡ ordering_reverse o → false ≡ true
    by o e k = ap is_lt (ap ordering_reverse (sym e) ∙ sym k ∙ e)

above : (a b : List ℕ) → slice_cmp nat_cmp a b ≡ Greater → slice_cmp nat_cmp b a ≡ Less
above a b e = nat_list_cmp_total.antisymm b a ∙ ap ordering_reverse e

-- ---- equal lists

not_in : (x q : List ℕ) (xs : List (List ℕ)) → AllByRecursion (λ (y : List ℕ). slice_cmp nat_cmp x y ≡ Less) xs → bytes_eq x q ≡ true → has_topic xs q ≡ false
not_in x q [] a e = refl
not_in x q (y ∷ ys) a e =
    or_from _ _ (false_from_ne_true _ (λ k. not_below x (subst (λ z. slice_cmp nat_cmp x z ≡ Less) (same y q k ∙ sym (same x q e)) a.0)))
    (not_in x q ys a.1 e)

member : (P : List ℕ → Type 0) (xs : List (List ℕ)) (q : List ℕ) → AllByRecursion P xs → has_topic xs q ≡ true → P q
member P [] q a k = absurd (false≢true k)
member P (x ∷ xs) q a k = elim (or_cases (bytes_eq x q) (has_topic xs q) k) [ inl e ↦ subst P (same x q e) a.0 | inr r ↦ member P xs q a.1 r ]

same_head : (x y : List ℕ) (xs ys : List (List ℕ)) → IsAscending (x ∷ xs) → IsAscending (y ∷ ys) → has_topic (y ∷ ys) x ≡ true → has_topic (x ∷ xs) y ≡ true → x ≡ y
same_head x y xs ys r s k l = elim (or_cases (bytes_eq y x) (has_topic ys x) k) [
  | inl e ↦ sym (same y x e)
  | inr a ↦ elim (or_cases (bytes_eq x y) (has_topic xs y) l) [
    | inl e ↦ same x y e
    | inr b ↦ absurd (not_below x (nat_list_cmp_total.trans x y x (member (λ z. slice_cmp nat_cmp x z ≡ Less) xs y r.0 b) (member (λ z. slice_cmp nat_cmp y z ≡ Less) ys x s.0 a)))
  ]
]

pub same_ascending : (xs ys : List (List ℕ)) → IsAscending xs → IsAscending ys → ((q : List ℕ) → has_topic xs q ≡ has_topic ys q) → xs ≡ ys
same_ascending [] [] r s f = refl
same_ascending [] (y ∷ ys) r s f = absurd (false≢true (f y ∙ or_left _ _ (bytes_itself y)))
same_ascending (x ∷ xs) [] r s f = absurd (false≢true (sym (f x) ∙ or_left _ _ (bytes_itself x)))
same_ascending (x ∷ xs) (y ∷ ys) r s f = rw head (ap (λ zs. y ∷ zs) (same_ascending xs ys r.1 s.1 (λ q. tail q (bytes_eq x q) refl)))
  where
    head : x ≡ y
    head = same_head x y xs ys r s (sym (f x) ∙ or_left _ _ (bytes_itself x)) (f y ∙ or_left _ _ (bytes_itself y))

    tail : (q : List ℕ) (b : Bool) → bytes_eq x q ≡ b → has_topic xs q ≡ has_topic ys q
    tail q true e = not_in x q xs r.0 e ∙ sym (not_in y q ys s.0 (ap (λ z. bytes_eq z q) (sym head) ∙ e))
    tail q false e = sym (ap (λ b. b || has_topic xs q) e) ∙ f q ∙ ap (λ b. b || has_topic ys q) (ap (λ z. bytes_eq z q) (sym head) ∙ e)

-- ---- rows

pub keys_have : {Y : Type 0} (q : List ℕ) (es : List (List ℕ × Y)) → has_topic (keys_of es) q ≡ is_some (at_topic q es)
keys_have q [] = refl
keys_have {Y = Y} q (e ∷ es) = ap (λ b. b || has_topic (keys_of es) q) (turned e.0 q ∙ sym (is_eq-slice_cmp q e.0)) ∙ by (is_eq (slice_cmp nat_cmp q e.0)) (keys_have q es)
  where
    by : (b : Bool) → has_topic (keys_of es) q ≡ is_some (at_topic q es) → (b || has_topic (keys_of es) q) ≡ is_some (cond b (Some e.1) (at_topic q es))
    by true r = refl
    by false r = r

-- ---- in order

module _ {X : Type 0} (topic : X → List ℕ) where
  abbrev pub before : X → X → Bool
  before x y = is_lt (slice_cmp nat_cmp (topic x) (topic y))

  -- no two of one topic
  abbrev pub AreApart : List X → Type 0
  AreApart [] = Unit {0}
  AreApart (x ∷ xs) = AllByRecursion (λ (y : X). bytes_eq (topic y) (topic x) ≡ false) xs × AreApart xs

  all_placed : (P : List ℕ → Type 0) (x : X) (ys : List X) → P (topic x) → AllByRecursion P (map topic ys) → AllByRecursion P (map topic (place before x ys))
  all_placed P x [] p a = (p, tt)
  all_placed P x (y ∷ ys) p a = by (before x y) (all_placed P x ys p a.1)
    where
      by : (b : Bool) → AllByRecursion P (map topic (place before x ys)) → AllByRecursion P (map topic (cond b (x ∷ y ∷ ys) (y ∷ place before x ys)))
      by true r = (p, a)
      by false r = (a.0, r)

  all_in_order : (P : List ℕ → Type 0) (xs : List X) → AllByRecursion (λ (x : X). P (topic x)) xs → AllByRecursion P (map topic (in_order before xs))
  all_in_order P [] a = tt
  all_in_order P (x ∷ xs) a = all_placed P x (in_order before xs) a.0 (all_in_order P xs a.1)

  placed_ascending : (x : X) (ys : List X) → IsAscending (map topic ys) → AllByRecursion (λ (t : List ℕ). bytes_eq t (topic x) ≡ false) (map topic ys) → IsAscending (map topic (place before x ys))
  placed_ascending x [] r a = (tt, tt)
  placed_ascending x (y ∷ ys) r a = by (slice_cmp nat_cmp (topic x) (topic y)) refl (placed_ascending x ys r.1 a.1)
    where
      by : (o : Ordering) → slice_cmp nat_cmp (topic x) (topic y) ≡ o → IsAscending (map topic (place before x ys)) → IsAscending (map topic (cond (is_lt o) (x ∷ y ∷ ys) (y ∷ place before x ys)))
      by Less e k =
          ((e, all_weaker (λ (t : List ℕ). slice_cmp nat_cmp (topic y) t ≡ Less) (λ (t : List ℕ). slice_cmp nat_cmp (topic x) t ≡ Less) (λ t l. nat_list_cmp_total.trans (topic x) (topic y) t e l) (map topic ys) r.0), r)
      by Equal e k =
          let s : topic x ≡ topic y = same (topic x) (topic y) (sym (is_eq-slice_cmp (topic x) (topic y)) ∙ ap is_eq e) in
          absurd (false≢true (sym a.0 ∙ subst (λ t. bytes_eq t (topic x) ≡ true) s (bytes_itself (topic x))))
      by Greater e k = (all_placed (λ (t : List ℕ). slice_cmp nat_cmp (topic y) t ≡ Less) x ys (above (topic x) (topic y) e) r.0, k)

  in_order_ascending : (xs : List X) → AreApart xs → IsAscending (map topic (in_order before xs))
  in_order_ascending [] a = tt
  in_order_ascending (x ∷ xs) a = placed_ascending x (in_order before xs) (in_order_ascending xs a.1) (all_in_order (λ (t : List ℕ). bytes_eq t (topic x) ≡ false) xs a.0)

  or_swap : (a b c : Bool) → (a || (b || c)) ≡ (b || (a || c))
  or_swap true true c = refl
  or_swap true false c = refl
  or_swap false b c = refl

  placed_has : (x : X) (ys : List X) (q : List ℕ) → has_topic (map topic (place before x ys)) q ≡ (bytes_eq (topic x) q || has_topic (map topic ys) q)
  placed_has x [] q = refl
  placed_has x (y ∷ ys) q = by (before x y) (placed_has x ys q)
    where
      by : (b : Bool) → has_topic (map topic (place before x ys)) q ≡ (bytes_eq (topic x) q || has_topic (map topic ys) q) → has_topic (map topic (cond b (x ∷ y ∷ ys) (y ∷ place before x ys))) q ≡ (bytes_eq (topic x) q || (bytes_eq (topic y) q || has_topic (map topic ys) q))
      by true r = refl
      by false r = ap (λ b. bytes_eq (topic y) q || b) r ∙ or_swap (bytes_eq (topic y) q) (bytes_eq (topic x) q) (has_topic (map topic ys) q)

  in_order_has : (xs : List X) (q : List ℕ) → has_topic (map topic (in_order before xs)) q ≡ is_some (find (λ x. bytes_eq (topic x) q) xs)
  in_order_has [] q = refl
  in_order_has (x ∷ xs) q = placed_has x (in_order before xs) q ∙ by (bytes_eq (topic x) q) (in_order_has xs q)
    where
      by : (b : Bool) → has_topic (map topic (in_order before xs)) q ≡ is_some (find (λ x. bytes_eq (topic x) q) xs) → (b || has_topic (map topic (in_order before xs)) q) ≡ is_some (cond b (Some x) (find (λ x. bytes_eq (topic x) q) xs))
      by true r = refl
      by false r = r

  placed_length : (x : X) (ys : List X) → length (place before x ys) ≡ suc (length ys)
  placed_length x [] = refl
  placed_length x (y ∷ ys) = by (before x y) (placed_length x ys)
    where
      by : (b : Bool) → length (place before x ys) ≡ suc (length ys) → length (cond b (x ∷ y ∷ ys) (y ∷ place before x ys)) ≡ suc (suc (length ys))
      by true r = refl
      by false r = ap suc r

  ordered_length : (xs : List X) → length (in_order before xs) ≡ length xs
  ordered_length [] = refl
  ordered_length (x ∷ xs) = placed_length x (in_order before xs) ∙ ap suc (ordered_length xs)

  mapped_length : (xs : List X) → length (map topic xs) ≡ length xs
  mapped_length [] = refl
  mapped_length (x ∷ xs) = ap suc (mapped_length xs)

  keys_length : {Y : Type 0} (es : List (List ℕ × Y)) → length (keys_of es) ≡ length es
  keys_length [] = refl
  keys_length (e ∷ es) = ap suc (keys_length es)

  -- rows that have the same topics
  module _ {Y : Type 0} (es : List (List ℕ × Y)) (xs : List X) (up : IsAscending (keys_of es)) (apart : AreApart xs)
      (here : (q : List ℕ) → is_some (at_topic q es) ≡ is_some (find (λ x. bytes_eq (topic x) q) xs)) where
    pub same_keys : keys_of es ≡ map topic (in_order before xs)
    same_keys = same_ascending (keys_of es) (map topic (in_order before xs)) up (in_order_ascending xs apart) (λ q. keys_have q es ∙ here q ∙ sym (in_order_has xs q))

    pub same_length : length es ≡ length xs
    same_length = sym (keys_length es) ∙ ap length same_keys ∙ mapped_length (in_order before xs) ∙ ordered_length xs
