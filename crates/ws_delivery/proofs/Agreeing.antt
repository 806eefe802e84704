-- The first due push of a table is the history's.
use Rattle.std.proofs.Common.{◌≡◌, ℕ, ◌≤◌, ◌<◌, Bool, true, false, not, cond, ◌&&◌, ◌||◌, List, [], ◌∷◌, refl, ap, sym, ◌∙◌, subst, arith}
use Rattle.std.specs.Prelude.{nat_lt, nat_le, Option, Some, None, filter, find, map, ◌==◌}
use Rattle.std.specs.List.{AllByRecursion, list_any}
use Rattle.std.specs.Option.{option_map}
use Rattle.std.proofs.lemmas.Bool.{false≢true}
use Rattle.std.proofs.lemmas.Bool.Decides.{nat_tests}
use Rattle.ws_model.specs.declared.event.Event.{Event}
use Rattle.ws_model.specs.declared.work.Work.{Work}
use Rattle.ws_model.specs.declared.work.Work.TheVariants.{Push}
use Rattle.ws_model.specs.Fate.{Pair, fate, is_owed, next}
use Rattle.ws_model.specs.Pairs.{owed, pairs}
use Rattle.ws_model.specs.Due.{place, in_order, by_next, is_behind, due_pairs, is_out}
use Rattle.ws_model.specs.Legal.{Legal}
use Rattle.ws_model.specs.View.{owed_push}
use Rattle.ws_laws.proofs.ListLaws.{all_weaker, all_filter, find-map}
use Rattle.ws_laws.proofs.Paired.{AreUnlike, unlike_filter, same_numbers, pairs_apart}
use Rattle.ws_delivery.specs.declared.open_pair.OpenPair.{OpenPair}
use Rattle.ws_delivery.specs.Table.{Rows, owed_at}
use Rattle.ws_delivery.specs.NextDue.{IsDue, IsFirstDue, comes_before}
use Rattle.ws_delivery.specs.Stands.{StandsFor, shown, shown_of, is_pair}
use Rattle.ws_delivery.specs.Agrees.{NextDueAgrees}

-- ---- the first of a list that was put in order

module _ {X : Type 0} (b : X → X → Bool) where
  -- none comes before an earlier one
  abbrev pub IsWeak : List X → Type 0
  IsWeak [] = Unit {0}
  IsWeak (x ∷ xs) = AllByRecursion (λ y. b y x ≡ false) xs × IsWeak xs

  all_placed : (P : X → Type 0) (x : X) (xs : List X) → P x → AllByRecursion P xs → AllByRecursion P (place b x xs)
  all_placed P x [] p a = (p, tt)
  all_placed P x (y ∷ ys) p a = one (b x y) (all_placed P x ys p a.1)
    where
      one : (c : Bool) → AllByRecursion P (place b x ys) → AllByRecursion P (cond c (x ∷ y ∷ ys) (y ∷ place b x ys))
      one true r = (p, a)
      one false r = (a.0, r)

  all_unplaced : (P : X → Type 0) (x : X) (xs : List X) → AllByRecursion P (place b x xs) → P x × AllByRecursion P xs
  all_unplaced P x [] a = (a.0, tt)
  all_unplaced P x (y ∷ ys) a = one (b x y) a (all_unplaced P x ys)
    where
      one : (c : Bool) → AllByRecursion P (cond c (x ∷ y ∷ ys) (y ∷ place b x ys)) → (AllByRecursion P (place b x ys) → P x × AllByRecursion P ys) → P x × AllByRecursion P (y ∷ ys)
      one true a f = (a.0, a.1)
      one false a f = let r = f a.1 in (r.0, (a.0, r.1))

  pub all_ordered : (P : X → Type 0) (xs : List X) → AllByRecursion P xs → AllByRecursion P (in_order b xs)
  all_ordered P [] a = tt
  all_ordered P (x ∷ xs) a = all_placed P x (in_order b xs) a.0 (all_ordered P xs a.1)

  pub all_unordered : (P : X → Type 0) (xs : List X) → AllByRecursion P (in_order b xs) → AllByRecursion P xs
  all_unordered P [] a = tt
  all_unordered P (x ∷ xs) a = let r = all_unplaced P x (in_order b xs) a in (r.0, all_unordered P xs r.1)

  module _ (back : (x y : X) → b x y ≡ true → b y x ≡ false) (through : (x y z : X) → b x y ≡ true → b z y ≡ false → b z x ≡ false) where
    weak_place : (x : X) (xs : List X) → IsWeak xs → IsWeak (place b x xs)
    weak_place x [] s = (tt, tt)
    weak_place x (y ∷ ys) s = one (b x y) refl (weak_place x ys s.1)
      where
        one : (c : Bool) → b x y ≡ c → IsWeak (place b x ys) → IsWeak (cond c (x ∷ y ∷ ys) (y ∷ place b x ys))
        one true p r = ((back x y p, all_weaker (λ z. b z y ≡ false) (λ z. b z x ≡ false) (λ z k. through x y z p k) ys s.0), s)
        one false p r = (all_placed (λ z. b z y ≡ false) x ys p s.0, r)

    pub weak_ordered : (xs : List X) → IsWeak (in_order b xs)
    weak_ordered [] = tt
    weak_ordered (x ∷ xs) = weak_place x (in_order b xs) (weak_ordered xs)

  -- what is found is a member, and no other that passes comes before it
  pub record IsFirst (p : X → Bool) (xs : List X) (x : X) : Type 1 where
    pub passes : p x ≡ true
    pub member : (P : X → Type 0) → AllByRecursion P xs → P x
    pub first : AllByRecursion (λ y. p y ≡ true → b y x ≡ false) xs

  module _ (own : (x : X) → b x x ≡ false) where
    pub first_found : (p : X → Bool) (xs : List X) (x : X) → IsWeak xs → find p xs ≡ Some x → IsFirst p xs x
    first_found p [] x s e = absurd (cc)
    first_found p (z ∷ zs) x s e = one (p z) refl e (first_found p zs x s.1)
      where
        one : (c : Bool) → p z ≡ c → cond c (Some z) (find p zs) ≡ Some x → (find p zs ≡ Some x → IsFirst p zs x) → IsFirst p (z ∷ zs) x
        one true q e f =
            let k : z ≡ x = cc in
            subst (IsFirst p (z ∷ zs)) k (record { passes = q; member = λ P a. a.0; first = (λ r. own z, all_weaker (λ y. b y z ≡ false) (λ y. p y ≡ true → b y z ≡ false) (λ y k r. k) zs s.0) })
        one false q e f =
            let r = f e in
            record { passes = r.passes; member = λ P a. r.member P a.1; first = (λ k. absurd (false≢true (sym q ∙ k)), r.first) }

none_passes : {X : Type 0} (p : X → Bool) (xs : List X) → find p xs ≡ None → AllByRecursion (λ x. p x ≡ false) xs
none_passes p [] e = tt
none_passes p (x ∷ xs) e = one (p x) refl e (none_passes p xs)
  where
    one : (c : Bool) → p x ≡ c → cond c (Some x) (find p xs) ≡ None → (find p xs ≡ None → AllByRecursion (λ y. p y ≡ false) xs) → (p x ≡ false) × AllByRecursion (λ y. p y ≡ false) xs
    one true q e f = absurd (cc)
    one false q e f = (q, f e)

all_passing : {X : Type 0} (P : X → Type 0) (p : X → Bool) (xs : List X) → AllByRecursion P (filter p xs) → AllByRecursion (λ x. p x ≡ true → P x) xs
all_passing P p [] a = tt
all_passing P p (x ∷ xs) a = one (p x) refl a (all_passing P p xs)
  where
    one : (c : Bool) → p x ≡ c → AllByRecursion P (cond c (x ∷ filter p xs) (filter p xs)) → (AllByRecursion P (filter p xs) → AllByRecursion (λ x. p x ≡ true → P x) xs) → (p x ≡ true → P x) × AllByRecursion (λ x. p x ≡ true → P x) xs
    one true q a f = (λ k. a.0, f a.1)
    one false q a f = (λ k. absurd (false≢true (sym q ∙ k)), f a)

all_filtered : {X : Type 0} (P : X → Type 0) (p : X → Bool) (xs : List X) → AllByRecursion (λ x. p x ≡ true → P x) xs → AllByRecursion P (filter p xs)
all_filtered P p [] a = tt
all_filtered P p (x ∷ xs) a = one (p x) refl (all_filtered P p xs a.1)
  where
    one : (c : Bool) → p x ≡ c → AllByRecursion P (filter p xs) → AllByRecursion P (cond c (x ∷ filter p xs) (filter p xs))
    one true q r = (a.0 q, r)
    one false q r = r

found_member : {X : Type 0} (p : X → Bool) (P : X → Type 0) (xs : List X) (x : X) → find p xs ≡ Some x → AllByRecursion P xs → P x × (p x ≡ true)
found_member p P [] x e a = absurd (cc)
found_member p P (y ∷ ys) x e a = one (p y) refl e (λ k. found_member p P ys x k a.1)
  where
    one : (c : Bool) → p y ≡ c → cond c (Some y) (find p ys) ≡ Some x → (find p ys ≡ Some x → P x × (p x ≡ true)) → P x × (p x ≡ true)
    one true q e f = let k : y ≡ x = cc in (subst P k a.0, ap p (sym k) ∙ q)
    one false q e f = f e

-- ---- the order of pushes

by_next_own : (h : List Event) (p : Pair) → by_next h p p ≡ false
by_next_own h p = by (next h p) p.version.ver p.lease.intent.n
  where
    by : (a c d : ℕ) → (nat_lt a a || ((a == a) && (nat_lt c c || ((c == c) && nat_lt d d)))) ≡ false
    by a c d = grind (arith, nat_tests)

by_next_back : (h : List Event) (p q : Pair) → by_next h p q ≡ true → by_next h q p ≡ false
by_next_back h p q = by (next h p) p.version.ver p.lease.intent.n (next h q) q.version.ver q.lease.intent.n
  where
    by : (a c d e f g : ℕ) → (nat_lt a e || ((a == e) && (nat_lt c f || ((c == f) && nat_lt d g)))) ≡ true → (nat_lt e a || ((e == a) && (nat_lt f c || ((f == c) && nat_lt g d)))) ≡ false
    by a c d e f g k = grind (arith, nat_tests)

by_next_through : (h : List Event) (p q r : Pair) → by_next h p q ≡ true → by_next h r q ≡ false → by_next h r p ≡ false
by_next_through h p q r = by (next h p) p.version.ver p.lease.intent.n (next h q) q.version.ver q.lease.intent.n (next h r) r.version.ver r.lease.intent.n
  where
    by : (a c d e f g i j k : ℕ) → (nat_lt a e || ((a == e) && (nat_lt c f || ((c == f) && nat_lt d g)))) ≡ true → (nat_lt i e || ((i == e) && (nat_lt j f || ((j == f) && nat_lt k g)))) ≡ false → (nat_lt i a || ((i == a) && (nat_lt j c || ((j == c) && nat_lt k d)))) ≡ false
    by a c d e f g i j k p q = grind (arith, nat_tests)

-- ---- the owed pairs of a history, by their numbers

abbrev pub numbered : ℕ → ℕ → Pair → Bool
numbered v n p = (p.version.ver == v) && (p.lease.intent.n == n)

abbrev pub shown_pair : List Event → Pair → OpenPair
shown_pair h p = shown (owed_push h p)

map_twice : {X Y Z : Type 0} (f : X → Y) (g : Y → Z) (o : Option X) → option_map g (option_map f o) ≡ option_map (λ x. g (f x)) o
map_twice f g None = refl
map_twice f g (Some x) = refl

shown_found : (h : List Event) (t v n : ℕ) → shown_of v n (map (owed_push h) (owed h t)) ≡ option_map (shown_pair h) (find (numbered v n) (owed h t))
shown_found h t v n = ap (option_map shown) (find-map (owed_push h) (is_pair v n) (owed h t)) ∙ map_twice (owed_push h) shown (find (numbered v n) (owed h t))

abbrev pub IsOnly : List Pair → Pair → Type 0
IsOnly ps p = find (numbered p.version.ver p.lease.intent.n) ps ≡ Some p

self_test : (a b : ℕ) → ((a == a) && (b == b)) ≡ true
self_test a b = grind (arith, nat_tests)

all_two : {X : Type 0} (P Q : X → Type 0) (xs : List X) → AllByRecursion P xs → AllByRecursion Q xs → AllByRecursion (λ x. P x × Q x) xs
all_two P Q [] a b = tt
all_two P Q (x ∷ xs) a b = ((a.0, b.0), all_two P Q xs a.1 b.1)

only_one : (ps : List Pair) → AreUnlike same_numbers ps → AllByRecursion (IsOnly ps) ps
only_one [] a = tt
only_one (p ∷ ps) a = (
  ap (λ c. cond c (Some p) (find (numbered p.version.ver p.lease.intent.n) ps)) (self_test p.version.ver p.lease.intent.n),
  all_weaker (λ q. (same_numbers p q ≡ false) × IsOnly ps q) (IsOnly (p ∷ ps))
      (λ q k. ap (λ c. cond c (Some p) (find (numbered q.version.ver q.lease.intent.n) ps)) k.0 ∙ k.1) ps
      (all_two (λ q. same_numbers p q ≡ false) (IsOnly ps) ps a.0 (only_one ps a.1)),
)

only_owed : (h : List Event) (t : ℕ) → Legal h → AllByRecursion (IsOnly (owed h t)) (owed h t)
only_owed h t l = only_one (owed h t) (unlike_filter same_numbers (λ p. is_owed (fate h p t)) (pairs h) (pairs_apart h l))

abbrev pub is_ripe : List Event → ℕ → Pair → Bool
is_ripe h t p = nat_le (next h p) t && not (is_behind (owed h t) p)

abbrev pub is_free : List Work → Pair → Bool
is_free out p = not (is_out out (Push p.version.ver p.lease.intent.n))

not_any : {X : Type 0} (f g : X → Bool) (xs : List X) → list_any f xs ≡ false → ((x : X) → g x ≡ true → f x ≡ true) → find g xs ≡ None
not_any f g [] e k = refl
not_any f g (x ∷ xs) e k = one (f x) refl (g x) refl e (λ r. not_any f g xs r k)
  where
    one : (b : Bool) → f x ≡ b → (c : Bool) → g x ≡ c → (b || list_any f xs) ≡ false → (list_any f xs ≡ false → find g xs ≡ None) → cond c (Some x) (find g xs) ≡ None
    one true p c q e r = absurd (false≢true (sym e))
    one false p true q e r = absurd (false≢true (sym p ∙ k x q))
    one false p false q e r = r e

any_not : {X : Type 0} (f : X → Bool) (xs : List X) → AllByRecursion (λ x. f x ≡ false) xs → list_any f xs ≡ false
any_not f [] a = refl
any_not f (x ∷ xs) a = rw a.0 (any_not f xs a.1)

not_true : (b : Bool) → not b ≡ true → b ≡ false
not_true true k = absurd (false≢true k)
not_true false k = refl

true_not : (b : Bool) → b ≡ false → not b ≡ true
true_not true k = absurd (false≢true (sym k))
true_not false k = refl

test_le : (a b : ℕ) → nat_le a b ≡ true → a ≤ b
test_le a b p = grind (arith, nat_tests)

le_test : (a b : ℕ) → a ≤ b → nat_le a b ≡ true
le_test a b p = grind (arith, nat_tests)

both_parts : (a b : Bool) → (a && b) ≡ true → (a ≡ true) × (b ≡ true)
both_parts true true k = (refl, refl)
both_parts true false k = absurd (false≢true k)
both_parts false b k = absurd (false≢true k)

both_true : (a b : Bool) → a ≡ true → b ≡ true → (a && b) ≡ true
both_true true true p q = refl
both_true true false p q = absurd (false≢true q)
both_true false b p q = absurd (false≢true p)

behind_test : (w v a b n : ℕ) → w < v → ((a == w) && (b == n)) ≡ true → ((b == n) && nat_lt a v) ≡ true
behind_test w v a b n l k = grind (arith, nat_tests)

-- ---- due in the history, due in the table

module _ (h : List Event) (since t : ℕ) (out : List Work) (rows : Rows) (l : Legal h) (s : StandsFor h since rows) (le : since ≤ t) where
  look : (v n : ℕ) → owed_at t v n rows ≡ option_map (shown_pair h) (find (numbered v n) (owed h t))
  look v n = s.shows t v n le ∙ shown_found h t v n

  due_here : (p : Pair) → IsOnly (owed h t) p → is_ripe h t p ≡ true → is_free out p ≡ true → IsDue t out rows p.version.ver p.lease.intent.n
  due_here p only ripe free =
      let parts = both_parts (nat_le (next h p) t) (not (is_behind (owed h t) p)) ripe in
      record {
        pair = shown_pair h p;
        still_owed = look p.version.ver p.lease.intent.n ∙ ap (option_map (shown_pair h)) only;
        has_come = test_le (next h p) t parts.0;
        lowest = λ w k. look w p.lease.intent.n ∙ ap (option_map (shown_pair h)) (not_any (λ q. (q.lease.intent.n == p.lease.intent.n) && nat_lt q.version.ver p.version.ver) (numbered w p.lease.intent.n) (owed h t) (not_true _ parts.1) (λ q m. behind_test w p.version.ver q.version.ver q.lease.intent.n p.lease.intent.n k m));
        free = not_true _ free;
      }

  -- the pair of the history that is due in the table
  record IsHere (v n : ℕ) (d : IsDue t out rows v n) : Type 0 where
    pub pair_here : Pair
    pub found : find (numbered v n) (owed h t) ≡ Some pair_here
    pub shows : shown_pair h pair_here ≡ d.pair

  here : (v n : ℕ) (d : IsDue t out rows v n) → IsHere v n d
  here v n d = by (find (numbered v n) (owed h t)) refl (sym (look v n) ∙ d.still_owed)
    where
      by : (o : Option Pair) → find (numbered v n) (owed h t) ≡ o → option_map (shown_pair h) o ≡ Some d.pair → IsHere v n d
      by None e k = absurd (cc)
      by (Some p) e k = let m : shown_pair h p ≡ d.pair = cc in record { pair_here = p; found = e; shows = m }

  is_numbered : (v n : ℕ) (p : Pair) → numbered v n p ≡ true → (p.version.ver ≡ v) × (p.lease.intent.n ≡ n)
  is_numbered v n p k = by p.version.ver p.lease.intent.n k
    where
      by : (a b : ℕ) → ((a == v) && (b == n)) ≡ true → (a ≡ v) × (b ≡ n)
      by a b k = (grind (arith, nat_tests), grind (arith, nat_tests))

  ripe_here : (v n : ℕ) (d : IsDue t out rows v n) (p : Pair) → find (numbered v n) (owed h t) ≡ Some p → shown_pair h p ≡ d.pair → numbered v n p ≡ true → is_ripe h t p ≡ true
  ripe_here v n d p e m k =
      let numbers = is_numbered v n p k in
      both_true (nat_le (next h p) t) (not (is_behind (owed h t) p)) (le_test (next h p) t (subst (λ z. z ≤ t) (sym (ap (λ (z : OpenPair). z.next) m)) d.has_come))
      (true_not _ (any_not (λ q. (q.lease.intent.n == p.lease.intent.n) && nat_lt q.version.ver p.version.ver) (owed h t) (all_weaker (IsOnly (owed h t)) (λ q. ((q.lease.intent.n == p.lease.intent.n) && nat_lt q.version.ver p.version.ver) ≡ false) (λ q o. no_lower numbers q o _ refl) (owed h t) (only_owed h t l))))
    where
      lower_parts : (a b c d : ℕ) → ((a == b) && nat_lt c d) ≡ true → (a ≡ b) × (c < d)
      lower_parts a b c d k = (grind (arith, nat_tests), grind (arith, nat_tests))

      no_lower : (p.version.ver ≡ v) × (p.lease.intent.n ≡ n) → (q : Pair) → IsOnly (owed h t) q → (b : Bool) → ((q.lease.intent.n == p.lease.intent.n) && nat_lt q.version.ver p.version.ver) ≡ b → ((q.lease.intent.n == p.lease.intent.n) && nat_lt q.version.ver p.version.ver) ≡ false
      no_lower numbers q o false r = r
      no_lower numbers q o true r =
          let parts = lower_parts q.lease.intent.n p.lease.intent.n q.version.ver p.version.ver r in
          let below : q.version.ver < v = subst (λ z. q.version.ver < z) numbers.0 parts.1 in
          absurd (none_some (shown_pair h q) (sym (d.lowest q.version.ver below) ∙ look q.version.ver n ∙ ap (option_map (shown_pair h)) (ap (λ z. find (numbered q.version.ver z) (owed h t)) (sym (parts.0 ∙ numbers.1)) ∙ o)))
        where
          none_some : (x : OpenPair) → None ≡ Some x → ⊥
          none_some x z = cc

  all_true : {X : Type 0} (p : X → Bool) (xs : List X) → AllByRecursion (λ x. p x ≡ true) (filter p xs)
  all_true {X = X} p xs = all_filtered (λ x. p x ≡ true) p xs (every xs)
    where
      every : (ys : List X) → AllByRecursion (λ x. p x ≡ true → p x ≡ true) ys
      every [] = tt
      every (y ∷ ys) = (λ k. k, every ys)

  -- the pair that is found first is due
  found_due : (q : Pair) → IsFirst (by_next h) (is_free out) (in_order (by_next h) (due_pairs h t)) q → IsDue t out rows q.version.ver q.lease.intent.n
  found_due q f =
      due_here q (f.member (IsOnly (owed h t)) (all_ordered (by_next h) (IsOnly (owed h t)) (due_pairs h t) (all_filter (IsOnly (owed h t)) (is_ripe h t) (owed h t) (only_owed h t l))))
      (f.member (λ p. is_ripe h t p ≡ true) (all_ordered (by_next h) (λ p. is_ripe h t p ≡ true) (due_pairs h t) (all_true (is_ripe h t) (owed h t))))
      f.passes

  first_of_history : (q : Pair) → find (is_free out) (in_order (by_next h) (due_pairs h t)) ≡ Some q → IsFirst (by_next h) (is_free out) (in_order (by_next h) (due_pairs h t)) q
  first_of_history q e = first_found (by_next h) (by_next_own h) (is_free out) (in_order (by_next h) (due_pairs h t)) q (weak_ordered (by_next h) (by_next_back h) (by_next_through h) (due_pairs h t)) e

  neither_first : (a c d e f g : ℕ) → comes_before a c d e f g ≡ false → comes_before e f g a c d ≡ false → (c ≡ f) × (d ≡ g)
  neither_first a c d e f g p q = (grind (arith, nat_tests), grind (arith, nat_tests))

  moved : (a c d e f g x y z : ℕ) → a ≡ e → c ≡ f → d ≡ g → comes_before a c d x y z ≡ false → comes_before e f g x y z ≡ false
  moved a c d e f g x y z p q r k = sym (λ j. comes_before (p j) (q j) (r j) x y z) ∙ k

  abbrev as_work : Pair → Work
  as_work p = Push p.version.ver p.lease.intent.n

  no_due : ((v n : ℕ) → IsDue t out rows v n → ⊥) → (o : Option Pair) → find (is_free out) (in_order (by_next h) (due_pairs h t)) ≡ o → option_map as_work o ≡ None
  no_due f None e = refl
  no_due f (Some q) e = absurd (f q.version.ver q.lease.intent.n (found_due q (first_of_history q e)))

  one_due : (v n : ℕ) → IsFirstDue t out rows v n → (o : Option Pair) → find (is_free out) (in_order (by_next h) (due_pairs h t)) ≡ o → option_map as_work o ≡ Some (Push v n)
  unfolding found_due due_here
  one_due v n f o e =
      let i = here v n f.due in
      let only = found_member (numbered v n) (λ p. Unit {0}) (owed h t) i.pair_here i.found (every (owed h t)) in
      let numbers = is_numbered v n i.pair_here only.1 in
      let ripe = ripe_here v n f.due i.pair_here i.found i.shows only.1 in
      let free : is_free out i.pair_here ≡ true = true_not _ ((λ j. is_out out (Push (numbers.0 j) (numbers.1 j))) ∙ f.due.free) in
      by o e i numbers ripe free
    where
      every : (ps : List Pair) → AllByRecursion (λ p. Unit {0}) ps
      every [] = tt
      every (p ∷ ps) = (tt, every ps)

      by : (o : Option Pair) → find (is_free out) (in_order (by_next h) (due_pairs h t)) ≡ o → (i : IsHere v n f.due) → (i.pair_here.version.ver ≡ v) × (i.pair_here.lease.intent.n ≡ n) → is_ripe h t i.pair_here ≡ true → is_free out i.pair_here ≡ true → option_map as_work o ≡ Some (Push v n)
      by None e i numbers ripe free =
          let none = all_passing (λ p. is_free out p ≡ false) (is_ripe h t) (owed h t) (all_unordered (by_next h) (λ p. is_free out p ≡ false) (due_pairs h t) (none_passes (is_free out) (in_order (by_next h) (due_pairs h t)) e)) in
          absurd (false≢true (sym ((found_member (numbered v n) (λ p. is_ripe h t p ≡ true → is_free out p ≡ false) (owed h t) i.pair_here i.found none).0 ripe) ∙ free))
      by (Some q) e i numbers ripe free =
          let g = first_of_history q e in
          let d = found_due q g in
          let first = all_passing (λ p. is_free out p ≡ true → by_next h p q ≡ false) (is_ripe h t) (owed h t) (all_unordered (by_next h) (λ p. is_free out p ≡ true → by_next h p q ≡ false) (due_pairs h t) g.first) in
          let not_before = (found_member (numbered v n) (λ p. is_ripe h t p ≡ true → is_free out p ≡ true → by_next h p q ≡ false) (owed h t) i.pair_here i.found first).0 ripe free in
          let at : next h i.pair_here ≡ f.due.pair.next = ap (λ (z : OpenPair). z.next) i.shows in
          let other : comes_before f.due.pair.next v n (next h q) q.version.ver q.lease.intent.n ≡ false = moved (next h i.pair_here) i.pair_here.version.ver i.pair_here.lease.intent.n f.due.pair.next v n (next h q) q.version.ver q.lease.intent.n at numbers.0 numbers.1 not_before in
          let same = neither_first (next h q) q.version.ver q.lease.intent.n f.due.pair.next v n (f.first q.version.ver q.lease.intent.n d) other in
          λ j. Some (Push (same.0 j) (same.1 j))

pub next_due_agrees : NextDueAgrees
next_due_agrees h since t out rows None l s le none = find-map (λ (p : Pair). Push p.version.ver p.lease.intent.n) (λ w. not (is_out out w)) (in_order (by_next h) (due_pairs h t)) ∙ no_due h since t out rows l s le none (find (is_free out) (in_order (by_next h) (due_pairs h t))) refl
next_due_agrees h since t out rows (Some r) l s le first = find-map (λ (p : Pair). Push p.version.ver p.lease.intent.n) (λ w. not (is_out out w)) (in_order (by_next h) (due_pairs h t)) ∙ one_due h since t out rows l s le r.0 r.1 first (find (is_free out) (in_order (by_next h) (due_pairs h t))) refl
