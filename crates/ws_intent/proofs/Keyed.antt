-- The index: maps whose keys are `Vec`s, read by their bytes.
use Rattle.std.proofs.Common.{◌≡◌, ℕ, Bool, true, false, cond, ◌&&◌, List, [], refl, ap, sym, ◌∙◌, subst, Option, Some, None, arith}
use Rattle.std.specs.Prelude.{bytes_eq, Vec, ◌==◌}
use Rattle.std.specs.List.{list_any}
use Rattle.std.specs.declared.cmp.Ordering.{Ordering}
use Rattle.std.specs.Map.{KeepsOthers, lookup}
use Rattle.std.specs.BTreeMap.{BTreeMap, get_by, UpdatesBy, is_at}
use Rattle.std.specs.BTreeSet.{BTreeSet, contains}
use Rattle.std.specs.Ordering.{nat_cmp, is_eq}
use Rattle.std.specs.Cmp.Lexicographic.{slice_cmp}
use Rattle.std.proofs.lemmas.Map.Text.{is_eq-slice_cmp}
use Rattle.std.proofs.lemmas.Slice.Eq.{bytes_eq-Decides}
use Rattle.std.proofs.lemmas.Bool.{false≢true, false_from_ne_true}
use Rattle.std.proofs.lemmas.Bool.Decides.{nat_tests}
use Rattle.ws_intent.specs.Index.{bytes_query, has_at, has_in, in_map, in_set}

pub same : (a b : List ℕ) → bytes_eq a b ≡ true → a ≡ b
same a b e = (bytes_eq-Decides a b).0 e

pub bytes_itself : (a : List ℕ) → bytes_eq a a ≡ true
bytes_itself a = (bytes_eq-Decides a a).1 refl

pub at_number : (n q : ℕ) → is_at (nat_cmp n) q ≡ (q == n)
at_number n q = grind (arith, nat_tests)

abbrev pub by_items : {Y : Type 0} → Vec ℕ Y → Vec ℕ Y → Ordering
by_items x y = slice_cmp nat_cmp x.items y.items

-- what a query for the bytes cs finds after a change at the bytes bs
pub updates_vec : {Y X : Type 0} (bs : List ℕ) (m n : BTreeMap (Vec ℕ Y) X) (w : Option X)
    → UpdatesBy by_items (bytes_query bs) m n w
    → (cs : List ℕ) → get_by (bytes_query cs) n ≡ cond (bytes_eq cs bs) w (get_by (bytes_query cs) m)
unfolding KeepsOthers
updates_vec {Y = Y} {X = X} bs m n w u cs = by_test (bytes_eq cs bs) refl
  where
    at : List ℕ → Vec ℕ Y → Bool
    at ds k = is_eq (slice_cmp nat_cmp ds k.items)

    at_same : (ds : List ℕ) (k : Vec ℕ Y) → is_eq (slice_cmp nat_cmp ds k.items) ≡ true → ds ≡ k.items
    at_same ds k e = same ds k.items (sym (is_eq-slice_cmp ds k.items) ∙ e)

    by_test : (b : Bool) → bytes_eq cs bs ≡ b → get_by (λ k. slice_cmp nat_cmp cs k.items) n ≡ cond b w (get_by (λ k. slice_cmp nat_cmp cs k.items) m)
    by_test true e = subst (λ ds. get_by (λ k. slice_cmp nat_cmp ds k.items) n ≡ w) (sym (same cs bs e)) u.1
    by_test false e =
        u.3 (λ k. is_eq (slice_cmp nat_cmp cs k.items))
        (λ x y k. ap (λ ds. is_eq (slice_cmp nat_cmp ds y.items)) (at_same cs x k))
        (λ k p. false_from_ne_true _ (λ q. false≢true (sym e ∙ (bytes_eq-Decides cs bs).1 (at_same cs k q ∙ sym (at_same bs k p)))))

-- ---- the sets of one topic

-- a set whose numbers change at n alone
pub at_updates : {Y : Type 0} (callback : List ℕ) (m k : BTreeMap (Vec ℕ Y) (BTreeSet ℕ)) (s t : BTreeSet ℕ) (n : ℕ) (v : Bool)
    → Some s ≡ get_by (bytes_query callback) m → UpdatesBy by_items (bytes_query callback) m k (Some t)
    → ((q : ℕ) → contains nat_cmp t q ≡ cond (is_at (nat_cmp n) q) v (contains nat_cmp s q))
    → (b : List ℕ) (q : ℕ) → has_at k b q ≡ cond (bytes_eq b callback && (q == n)) v (has_at m b q)
at_updates {Y = Y} callback m k s t n v was u f b q = ap (λ o. in_set o q) (updates_vec callback m k (Some t) u b) ∙ by_callback (bytes_eq b callback) refl
  where
    by_callback : (x : Bool) → bytes_eq b callback ≡ x → in_set (cond x (Some t) (get_by (bytes_query b) m)) q ≡ cond (x && (q == n)) v (has_at m b q)
    by_callback true e = f q ∙ ap (λ y. cond y v (contains nat_cmp s q)) (at_number n q) ∙ ap (λ o. cond (q == n) v (in_set o q)) was ∙ ap (λ x. cond (q == n) v (has_at m x q)) (sym (same b callback e))
    by_callback false e = refl

-- a set that stays as it was
pub at_same : {Y : Type 0} (callback : List ℕ) (m k : BTreeMap (Vec ℕ Y) (BTreeSet ℕ)) (s t : BTreeSet ℕ)
    → Some s ≡ get_by (bytes_query callback) m → UpdatesBy by_items (bytes_query callback) m k (Some t) → t.keys ≡ s.keys
    → (b : List ℕ) (q : ℕ) → has_at k b q ≡ has_at m b q
at_same {Y = Y} callback m k s t was u f b q = ap (λ o. in_set o q) (updates_vec callback m k (Some t) u b) ∙ by_callback (bytes_eq b callback) refl
  where
    by_callback : (x : Bool) → bytes_eq b callback ≡ x → in_set (cond x (Some t) (get_by (bytes_query b) m)) q ≡ has_at m b q
    by_callback true e = ap (λ xs. list_any (is_at (nat_cmp q)) xs) f ∙ ap (λ o. in_set o q) was ∙ ap (λ x. has_at m x q) (sym (same b callback e))
    by_callback false e = refl

-- a new set, where m is as it was before a look-up
pub at_adds : {Y : Type 0} (callback : List ℕ) (old m k : BTreeMap (Vec ℕ Y) (BTreeSet ℕ)) (s t : BTreeSet ℕ) (n : ℕ)
    → m ≡ old → None ≡ get_by (bytes_query callback) old → s.keys ≡ [] → UpdatesBy by_items (bytes_query callback) m k (Some t)
    → ((q : ℕ) → contains nat_cmp t q ≡ cond (is_at (nat_cmp n) q) true (contains nat_cmp s q))
    → (b : List ℕ) (q : ℕ) → has_at k b q ≡ cond (bytes_eq b callback && (q == n)) true (has_at old b q)
at_adds {Y = Y} callback old m k s t n still was empty u f b q = ap (λ o. in_set o q) (updates_vec callback m k (Some t) u b) ∙ by_callback (bytes_eq b callback) refl
  where
    by_callback : (x : Bool) → bytes_eq b callback ≡ x → in_set (cond x (Some t) (get_by (bytes_query b) m)) q ≡ cond (x && (q == n)) true (has_at old b q)
    by_callback true e = f q ∙ ap (λ y. cond y true (contains nat_cmp s q)) (at_number n q) ∙ ap (λ xs. cond (q == n) true (list_any (is_at (nat_cmp q)) xs)) empty ∙ ap (λ o. cond (q == n) true (in_set o q)) was ∙ ap (λ x. cond (q == n) true (has_at old x q)) (sym (same b callback e))
    by_callback false e = ap (λ x. has_at x b q) still

-- an empty set that is given up
pub at_emptied : {Y : Type 0} (callback : List ℕ) (m k : BTreeMap (Vec ℕ Y) (BTreeSet ℕ))
    → UpdatesBy by_items (bytes_query callback) m k None → ((q : ℕ) → has_at m callback q ≡ false)
    → (b : List ℕ) (q : ℕ) → has_at k b q ≡ has_at m b q
at_emptied {Y = Y} callback m k u f b q = ap (λ o. in_set o q) (updates_vec callback m k None u b) ∙ by_callback (bytes_eq b callback) refl
  where
    by_callback : (x : Bool) → bytes_eq b callback ≡ x → in_set (cond x None (get_by (bytes_query b) m)) q ≡ has_at m b q
    by_callback true e = sym (f q) ∙ ap (λ x. has_at m x q) (sym (same b callback e))
    by_callback false e = refl

-- ---- the topics

-- the map of one topic, changed at one callback and number
pub in_updates : {Y Z : Type 0} (topic callback : List ℕ) (m k : BTreeMap (Vec ℕ Y) (BTreeMap (Vec ℕ Z) (BTreeSet ℕ))) (s t : BTreeMap (Vec ℕ Z) (BTreeSet ℕ)) (n : ℕ) (v : Bool)
    → Some s ≡ get_by (bytes_query topic) m → UpdatesBy by_items (bytes_query topic) m k (Some t)
    → ((b : List ℕ) (q : ℕ) → has_at t b q ≡ cond (bytes_eq b callback && (q == n)) v (has_at s b q))
    → (a b : List ℕ) (q : ℕ) → has_in k a b q ≡ cond (bytes_eq a topic && bytes_eq b callback && (q == n)) v (has_in m a b q)
in_updates {Y = Y} {Z = Z} topic callback m k s t n v was u f a b q = ap (λ o. in_map o b q) (updates_vec topic m k (Some t) u a) ∙ by_topic (bytes_eq a topic) refl
  where
    by_topic : (x : Bool) → bytes_eq a topic ≡ x → in_map (cond x (Some t) (get_by (bytes_query a) m)) b q ≡ cond (x && bytes_eq b callback && (q == n)) v (has_in m a b q)
    by_topic true e = f b q ∙ ap (λ o. cond (bytes_eq b callback && (q == n)) v (in_map o b q)) was ∙ ap (λ x. cond (bytes_eq b callback && (q == n)) v (has_in m x b q)) (sym (same a topic e))
    by_topic false e = refl

pub in_same : {Y Z : Type 0} (topic : List ℕ) (m k : BTreeMap (Vec ℕ Y) (BTreeMap (Vec ℕ Z) (BTreeSet ℕ))) (s t : BTreeMap (Vec ℕ Z) (BTreeSet ℕ))
    → Some s ≡ get_by (bytes_query topic) m → UpdatesBy by_items (bytes_query topic) m k (Some t)
    → ((b : List ℕ) (q : ℕ) → has_at t b q ≡ has_at s b q)
    → (a b : List ℕ) (q : ℕ) → has_in k a b q ≡ has_in m a b q
in_same {Y = Y} {Z = Z} topic m k s t was u f a b q = ap (λ o. in_map o b q) (updates_vec topic m k (Some t) u a) ∙ by_topic (bytes_eq a topic) refl
  where
    by_topic : (x : Bool) → bytes_eq a topic ≡ x → in_map (cond x (Some t) (get_by (bytes_query a) m)) b q ≡ has_in m a b q
    by_topic true e = f b q ∙ ap (λ o. in_map o b q) was ∙ ap (λ x. has_in m x b q) (sym (same a topic e))
    by_topic false e = refl

pub in_adds : {Y Z : Type 0} (topic callback : List ℕ) (old m k : BTreeMap (Vec ℕ Y) (BTreeMap (Vec ℕ Z) (BTreeSet ℕ))) (s t : BTreeMap (Vec ℕ Z) (BTreeSet ℕ)) (n : ℕ)
    → m ≡ old → None ≡ get_by (bytes_query topic) old → s.entries ≡ [] → UpdatesBy by_items (bytes_query topic) m k (Some t)
    → ((b : List ℕ) (q : ℕ) → has_at t b q ≡ cond (bytes_eq b callback && (q == n)) true (has_at s b q))
    → (a b : List ℕ) (q : ℕ) → has_in k a b q ≡ cond (bytes_eq a topic && bytes_eq b callback && (q == n)) true (has_in old a b q)
in_adds {Y = Y} {Z = Z} topic callback old m k s t n still was empty u f a b q = ap (λ o. in_map o b q) (updates_vec topic m k (Some t) u a) ∙ by_topic (bytes_eq a topic) refl
  where
    by_topic : (x : Bool) → bytes_eq a topic ≡ x → in_map (cond x (Some t) (get_by (bytes_query a) m)) b q ≡ cond (x && bytes_eq b callback && (q == n)) true (has_in old a b q)
    by_topic true e = f b q ∙ ap (λ xs. cond (bytes_eq b callback && (q == n)) true (in_set (lookup (is_at (bytes_query b)) xs) q)) empty ∙ ap (λ o. cond (bytes_eq b callback && (q == n)) true (in_map o b q)) was ∙ ap (λ x. cond (bytes_eq b callback && (q == n)) true (has_in old x b q)) (sym (same a topic e))
    by_topic false e = ap (λ x. has_in x a b q) still

pub in_emptied : {Y Z : Type 0} (topic : List ℕ) (m k : BTreeMap (Vec ℕ Y) (BTreeMap (Vec ℕ Z) (BTreeSet ℕ)))
    → UpdatesBy by_items (bytes_query topic) m k None → ((b : List ℕ) (q : ℕ) → has_in m topic b q ≡ false)
    → (a b : List ℕ) (q : ℕ) → has_in k a b q ≡ has_in m a b q
in_emptied {Y = Y} {Z = Z} topic m k u f a b q = ap (λ o. in_map o b q) (updates_vec topic m k None u a) ∙ by_topic (bytes_eq a topic) refl
  where
    by_topic : (x : Bool) → bytes_eq a topic ≡ x → in_map (cond x None (get_by (bytes_query a) m)) b q ≡ has_in m a b q
    by_topic true e = sym (f b q) ∙ ap (λ x. has_in m x b q) (sym (same a topic e))
    by_topic false e = refl
