-- Maps whose keys are `Vec`s, read by their bytes.
use Rattle.std.proofs.Common.{◌≡◌, ℕ, suc, ◌<◌, Bool, true, false, cond, List, [], ◌∷◌, refl, ap, sym, ◌∙◌, subst, arith, Option, Some, None}
use Rattle.std.specs.Prelude.{IfSome, bytes_eq, nat_le, Vec, map}
use Rattle.std.specs.List.{AllByRecursion}
use Rattle.std.specs.List.Sorted.{IsStrictlySortedBy}
use Rattle.std.specs.declared.cmp.Ordering.{Ordering}
use Rattle.std.specs.declared.cmp.Ordering.TheVariants.{Less, Equal, Greater}
use Rattle.std.specs.Map.{KeepsOthers, keys_of, lookup, remove_entry, set_value}
use Rattle.std.specs.BTreeMap.{BTreeMap, get_by, insert_entry, UpdatesBy, is_at}
use Rattle.std.specs.Ordering.{nat_cmp, is_eq, match_ordering, ordering_reverse}
use Rattle.std.specs.Cmp.Lexicographic.{nat_list_cmp_total, slice_cmp}
use Rattle.std.proofs.lemmas.Map.Keys.{sorted_head, sorted_tail}
use Rattle.std.proofs.lemmas.Map.Text.{is_eq-slice_cmp}
use Rattle.std.proofs.lemmas.Slice.Eq.{bytes_eq-Decides}
use Rattle.std.proofs.lemmas.Bool.Decides.{nat_tests}
use Rattle.ws_laws.proofs.ListLaws.{all_weaker}
use Rattle.ws_topic.specs.declared.rows.OwedFetch.{OwedFetch}
use Rattle.ws_topic.specs.Rows.{after_miss, is_last, missed, missed_once, missed_row}
use Rattle.ws_topic.specs.Stored.{IsListed}
use Rattle.std.proofs.lemmas.Bool.{false≢true, false_from_ne_true}
use Rattle.ws_topic.specs.ByTopic.{IsAscending, at_topic, by_bytes, with_topic, without_topic}

pub same : (a b : List ℕ) → bytes_eq a b ≡ true → a ≡ b
same a b e = (bytes_eq-Decides a b).0 e

pub bytes_itself : (a : List ℕ) → bytes_eq a a ≡ true
bytes_itself a = (bytes_eq-Decides a a).1 refl

abbrev pub bytes_query : {Y : Type 0} → List ℕ → Vec ℕ Y → Ordering
bytes_query bytes k = slice_cmp nat_cmp bytes k.items

abbrev pub by_items : {Y : Type 0} → Vec ℕ Y → Vec ℕ Y → Ordering
by_items x y = slice_cmp nat_cmp x.items y.items

-- what a query for the bytes cs finds after a change at the bytes bs
updates_vec : {Y X : Type 0} (bs : List ℕ) (m n : BTreeMap (Vec ℕ Y) X) (w : Option X)
    → UpdatesBy by_items (bytes_query bs) m n w
    → (cs : List ℕ) → get_by (bytes_query cs) n ≡ cond (bytes_eq cs bs) w (get_by (bytes_query cs) m)
unfolding KeepsOthers
updates_vec {Y = Y} {X = X} bs m n w u cs = by_test (bytes_eq cs bs) refl
  where
    at : List ℕ → Vec ℕ Y → Bool
    at ds k = is_eq (slice_cmp nat_cmp ds k.items)

    at_same : (ds : List ℕ) (k : Vec ℕ Y) → is_eq (slice_cmp nat_cmp ds k.items) ≡ true → ds ≡ k.items
    at_same ds k e = same ds k.items (sym (is_eq-slice_cmp ds k.items) ∙ e)

    by_test : (b : Bool) → bytes_eq cs bs ≡ b → get_by (λ k. slice_cmp nat_cmp cs k.items) n ≡ cond b w (get_by (λ k. slice_cmp nat_cmp cs k.items) m)
    by_test true e = subst (λ ds. get_by (λ k. slice_cmp nat_cmp ds k.items) n ≡ w) (sym (same cs bs e)) u.1
    by_test false e =
        u.3 (λ k. is_eq (slice_cmp nat_cmp cs k.items))
        (λ x y k. ap (λ ds. is_eq (slice_cmp nat_cmp ds y.items)) (at_same cs x k))
        (λ k p. false_from_ne_true _ (λ q. false≢true (sym e ∙ (bytes_eq-Decides cs bs).1 (at_same cs k q ∙ sym (at_same bs k p)))))

-- ---- as lists of topics

pub found_at : {X Y : Type 0} (a : List ℕ) (es : List (Vec ℕ Y × X)) → lookup (is_at (bytes_query a)) es ≡ at_topic a (by_bytes es)
found_at a [] = refl
found_at a (e ∷ es) = ap (cond (is_eq (slice_cmp nat_cmp a e.0.items)) (Some e.1)) (found_at a es)

pub rows_change : {X Y : Type 0} (bs : List ℕ) (m n : BTreeMap (Vec ℕ Y) X) (w : Option X) → UpdatesBy by_items (bytes_query bs) m n w
    → (q : List ℕ) → at_topic q (by_bytes n.entries) ≡ cond (bytes_eq q bs) w (at_topic q (by_bytes m.entries))
rows_change bs m n w u q = sym (found_at q n.entries) ∙ updates_vec bs m n w u q ∙ ap (cond (bytes_eq q bs) w) (found_at q m.entries)

pub bytes_insert : {X Y : Type 0} (es : List (Vec ℕ Y × X)) (k : Vec ℕ Y) (v : X) → by_bytes (insert_entry by_items es k v) ≡ with_topic k.items v (by_bytes es)
bytes_insert [] k v = refl
bytes_insert {X = X} {Y = Y} (e ∷ es) k v = by (slice_cmp nat_cmp k.items e.0.items) (bytes_insert es k v)
  where
    by : (o : Ordering) → by_bytes (insert_entry by_items es k v) ≡ with_topic k.items v (by_bytes es)
        → by_bytes (match_ordering o ((k, v) ∷ e ∷ es) ((e.0, v) ∷ es) (e ∷ insert_entry by_items es k v))
        ≡ match_ordering o ((k.items, v) ∷ (e.0.items, e.1) ∷ by_bytes es) ((e.0.items, v) ∷ by_bytes es) ((e.0.items, e.1) ∷ with_topic k.items v (by_bytes es))
    by Less r = refl
    by Equal r = refl
    by Greater r = ap (λ ys. (e.0.items, e.1) ∷ ys) r

pub bytes_remove : {X Y : Type 0} (a : List ℕ) (es : List (Vec ℕ Y × X)) → by_bytes (remove_entry (is_at (bytes_query a)) es) ≡ without_topic a (by_bytes es)
bytes_remove a [] = refl
bytes_remove {X = X} {Y = Y} a (e ∷ es) = by (is_eq (slice_cmp nat_cmp a e.0.items)) (bytes_remove a es)
  where
    by : (b : Bool) → by_bytes (remove_entry (is_at (bytes_query a)) es) ≡ without_topic a (by_bytes es)
        → by_bytes (cond b es (e ∷ remove_entry (is_at (bytes_query a)) es)) ≡ cond b (by_bytes es) ((e.0.items, e.1) ∷ without_topic a (by_bytes es))
    by true r = refl
    by false r = ap (λ ys. (e.0.items, e.1) ∷ ys) r

pub bytes_set : {X Y : Type 0} (a : List ℕ) (es : List (Vec ℕ Y × X)) (w : X) → by_bytes (set_value (is_at (bytes_query a)) es w) ≡ set_value (is_at (slice_cmp nat_cmp a)) (by_bytes es) w
bytes_set a [] w = refl
bytes_set {X = X} {Y = Y} a (e ∷ es) w = by (is_eq (slice_cmp nat_cmp a e.0.items)) (bytes_set a es w)
  where
    by : (b : Bool) → by_bytes (set_value (is_at (bytes_query a)) es w) ≡ set_value (is_at (slice_cmp nat_cmp a)) (by_bytes es) w
        → by_bytes (cond b ((e.0, w) ∷ es) (e ∷ set_value (is_at (bytes_query a)) es w)) ≡ cond b ((e.0.items, w) ∷ by_bytes es) ((e.0.items, e.1) ∷ set_value (is_at (slice_cmp nat_cmp a)) (by_bytes es) w)
    by true r = refl
    by false r = ap (λ ys. (e.0.items, e.1) ∷ ys) r

all_bytes : {X Y : Type 0} (k : Vec ℕ Y) (es : List (Vec ℕ Y × X)) → AllByRecursion (λ y. by_items k y ≡ Less) (keys_of es) → AllByRecursion (λ (y : List ℕ). slice_cmp nat_cmp k.items y ≡ Less) (keys_of (by_bytes es))
all_bytes k [] a = tt
all_bytes k (e ∷ es) a = (a.0, all_bytes k es a.1)

pub ascending : {X Y : Type 0} (es : List (Vec ℕ Y × X)) → IsStrictlySortedBy by_items (keys_of es) → IsAscending (keys_of (by_bytes es))
ascending [] s = tt
ascending (e ∷ es) s = (all_bytes e.0 es (sorted_head by_items e.0 (keys_of es) s), ascending es (sorted_tail by_items e.0 (keys_of es) s))

-- ---- each row

less_than : (a b : List ℕ) → slice_cmp nat_cmp a b ≡ Less → is_eq (slice_cmp nat_cmp b a) ≡ false
less_than a b e = ap is_eq (nat_list_cmp_total.antisymm b a ∙ ap ordering_reverse e)

pub at_itself : (a : List ℕ) → is_eq (slice_cmp nat_cmp a a) ≡ true
at_itself a = is_eq-slice_cmp a a ∙ bytes_itself a

module _ {X : Type 0} where
  stays_found : (e : List ℕ × X) (es fs : List (List ℕ × X)) → AllByRecursion (λ (k : List ℕ). slice_cmp nat_cmp e.0 k ≡ Less) (keys_of fs) → AllByRecursion (λ (f : List ℕ × X). at_topic f.0 es ≡ Some f.1) fs → AllByRecursion (λ (f : List ℕ × X). at_topic f.0 (e ∷ es) ≡ Some f.1) fs
  stays_found e es [] a b = tt
  stays_found e es (f ∷ fs) a b = (ap (λ c. cond c (Some e.1) (at_topic f.0 es)) (less_than e.0 f.0 a.0) ∙ b.0, stays_found e es fs a.1 b.1)

  -- each row is found at its topic
  pub rows_found : (es : List (List ℕ × X)) → IsAscending (keys_of es) → AllByRecursion (λ (e : List ℕ × X). at_topic e.0 es ≡ Some e.1) es
  rows_found [] r = tt
  rows_found (e ∷ es) r = (ap (λ b. cond b (Some e.1) (at_topic e.0 es)) (at_itself e.0), stays_found e es es r.0 (rows_found es r.1))

if_some : {X : Type 0} (P : X → Type 0) (o : Option X) (x : X) → o ≡ Some x → IfSome o P → P x
if_some P None x e k = absurd (grind arith)
if_some P (Some y) x e k = subst P (let s : y ≡ x = cc in s) k

-- each fetch stands at its topic
pub all_listed : (es : List (List ℕ × OwedFetch)) → IsListed es → AllByRecursion (λ (e : List ℕ × OwedFetch). e.1.topic ≡ e.0) es
all_listed es l = all_weaker (λ (e : List ℕ × OwedFetch). at_topic e.0 es ≡ Some e.1) (λ (e : List ℕ × OwedFetch). e.1.topic ≡ e.0) (λ e k. if_some (λ (f : OwedFetch). f.topic ≡ e.0) (at_topic e.0 es) e.1 k (l.keyed e.0)) es (rows_found es l.ascending)

-- a missed fetch that isn't the third
pub room : (m : ℕ) → nat_le 3 (suc m) ≡ false → m < 2
room m e = grind (arith, nat_tests)

pub set_missed : (topic : List ℕ) (es : List (List ℕ × OwedFetch)) (f : OwedFetch) → at_topic topic es ≡ Some f → nat_le 3 (suc f.missed) ≡ false → set_value (is_at (slice_cmp nat_cmp topic)) es (missed_once f) ≡ after_miss topic es
set_missed topic es f e k = sym (ap (missed_row topic es) e ∙ ap (λ b. cond b (without_topic topic es) (set_value (is_at (slice_cmp nat_cmp topic)) es (missed_once f))) k)

pub missed_is : (o : Option OwedFetch) (f : OwedFetch) → o ≡ Some f → nat_le 3 (suc f.missed) ≡ false → Some (missed_once f) ≡ missed o
missed_is o f e k = sym (ap missed e ∙ ap (λ b. cond b None (Some (missed_once f))) k)

pub not_last : (o : Option OwedFetch) (f : OwedFetch) → o ≡ Some f → is_last o ≡ false → nat_le 3 (suc f.missed) ≡ false
not_last o f e k = ap is_last (sym e) ∙ k

-- a topic that isn't there
pub none_row : {X : Type 0} (topic : List ℕ) (es : List (List ℕ × X)) (q : List ℕ) → at_topic topic es ≡ None → at_topic q es ≡ cond (bytes_eq q topic) None (at_topic q es)
none_row topic es q e = by (bytes_eq q topic) refl
  where
    by : (b : Bool) → bytes_eq q topic ≡ b → at_topic q es ≡ cond b None (at_topic q es)
    by true k = ap (λ t. at_topic t es) (same q topic k) ∙ e
    by false k = refl

pub nothing : {X : Type 0} (o : Option X) → ((x : X) → o ≡ Some x → ⊥) → o ≡ None
nothing None e = refl
nothing (Some x) e = absurd (e x refl)
