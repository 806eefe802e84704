-- A list that rises, by its sides of one that stands between.
use Rattle.std.proofs.Common.{◌≡◌, Bool, true, false, not, cond, ◌||◌, List, [], ◌∷◌, ◌++◌, refl, ap, sym, ◌∙◌, subst, append_assoc}
use Rattle.std.specs.Prelude.{filter, find, Some, None}
use Rattle.std.specs.List.{AllByRecursion}
use Rattle.std.proofs.lemmas.Bool.{false≢true}
use Rattle.ws_model.specs.Due.{place}
use Rattle.ws_order.specs.Orders.{IsOrder, has_key, Rises}
use Rattle.ws_order.proofs.Rising.{before_other, behind_other, same_turned, then_before, not_before_then, all_weaker, all_back, all_both, any-append, any_none, none_any, rising_front, rising_back, rising_filter, rising_place, all_before, all_behind}

pub record SplitsBehind {K : Type 0} (before : K → K → Bool) (at top : K) (d l low high : List K) : Type 0 where
  pub rising : Rises before (l ++ top ∷ low)
  pub all : d ≡ (l ++ top ∷ low) ++ high
  pub all_low : AllByRecursion (λ x. before x at ≡ true) (l ++ top ∷ low)

pub record SplitsFront {K : Type 0} (before : K → K → Bool) (at top : K) (d low high r : List K) : Type 0 where
  pub rising : Rises before (high ++ top ∷ r)
  pub all : d ≡ low ++ (high ++ top ∷ r)
  pub all_high : AllByRecursion (λ x. before x at ≡ false) (high ++ top ∷ r)

pub record Placed {K : Type 0} (before : K → K → Bool) (x : K) (d e : List K) : Type 0 where
  pub is : e ≡ place before x d
  pub rising : Rises before e

-- what isn't there is on neither side, nor between
pub record IsApart {K : Type 0} (same : K → K → Bool) (x top : K) (l r : List K) : Type 0 where
  pub front : has_key same x l ≡ false
  pub between : same x top ≡ false
  pub behind : has_key same x r ≡ false

pub record IsWithout {K : Type 0} (before same : K → K → Bool) (m : K) (d new : List K) (b : Bool) : Type 0 where
  pub is : new ≡ filter (λ x. not (same m x)) d
  pub found : b ≡ has_key same m d
  pub rising : Rises before new

-- ---- lists

or_first : (b c : Bool) → (b || c) ≡ false → b ≡ false
or_first true c e = e
or_first false c e = refl

or_second : (b c : Bool) → (b || c) ≡ false → c ≡ false
or_second true c e = absurd (false≢true (sym e))
or_second false c e = e

filter-append : {X : Type 0} (p : X → Bool) (xs ys : List X) → filter p (xs ++ ys) ≡ filter p xs ++ filter p ys
filter-append p [] ys = refl
filter-append p (x ∷ xs) ys = one (p x) (filter-append p xs ys)
  where
    one : (b : Bool) → filter p (xs ++ ys) ≡ filter p xs ++ filter p ys → cond b (x ∷ filter p (xs ++ ys)) (filter p (xs ++ ys)) ≡ cond b (x ∷ filter p xs) (filter p xs) ++ filter p ys
    one true r = ap (λ z. x ∷ z) r
    one false r = r

or_nothing : (b : Bool) → (b || false) ≡ b
or_nothing true = refl
or_nothing false = refl

find-some : {X : Type 0} (p : X → Bool) (xs ys : List X) (x : X) → find p xs ≡ Some x → find p (xs ++ ys) ≡ Some x
find-some p [] ys x e = absurd (cc)
find-some p (z ∷ xs) ys x e = one (p z) e (find-some p xs ys x)
  where
    one : (b : Bool) → cond b (Some z) (find p xs) ≡ Some x → (find p xs ≡ Some x → find p (xs ++ ys) ≡ Some x) → cond b (Some z) (find p (xs ++ ys)) ≡ Some x
    one true e r = e
    one false e r = r e

find-none : {X : Type 0} (p : X → Bool) (xs ys : List X) → find p xs ≡ None → find p (xs ++ ys) ≡ find p ys
find-none p [] ys e = refl
find-none p (z ∷ xs) ys e = one (p z) e (find-none p xs ys)
  where
    one : (b : Bool) → cond b (Some z) (find p xs) ≡ None → (find p xs ≡ None → find p (xs ++ ys) ≡ find p ys) → cond b (Some z) (find p (xs ++ ys)) ≡ find p ys
    one true e r = absurd (cc)
    one false e r = r e

find_nothing : {X : Type 0} (p : X → Bool) (xs : List X) → AllByRecursion (λ x. p x ≡ false) xs → find p xs ≡ None
find_nothing p [] a = refl
find_nothing p (x ∷ xs) a = rw a.0 (find_nothing p xs a.1)

-- ---- the first that is wanted

module _ {K : Type 0} (wanted : K → Bool) (d l r : List K) (top : K) (e : d ≡ l ++ top ∷ r) where
  pub wanted_in_front : (x : K) → find wanted l ≡ Some x → find wanted d ≡ Some x
  wanted_in_front x f = ap (find wanted) e ∙ find-some wanted l (top ∷ r) x f

  pub wanted_between : find wanted l ≡ None → wanted top ≡ true → find wanted d ≡ Some top
  wanted_between f g = ap (find wanted) e ∙ find-none wanted l (top ∷ r) f ∙ ap (λ b. cond b (Some top) (find wanted r)) g

  pub wanted_behind : find wanted l ≡ None → wanted top ≡ false → find wanted d ≡ find wanted r
  wanted_behind f g = ap (find wanted) e ∙ find-none wanted l (top ∷ r) f ∙ ap (λ b. cond b (Some top) (find wanted r)) g

-- ---- the sides

module _ {K : Type 0} {before same : K → K → Bool} (o : IsOrder before same) where
  pub splits_behind : (at top : K) (d l r low high : List K) → d ≡ l ++ top ∷ r → Rises before d → r ≡ low ++ high → before top at ≡ true → AllByRecursion (λ x. before x at ≡ true) low → SplitsBehind before at top d l low high
  splits_behind at top d l r low high e s f q a =
      let g : d ≡ (l ++ top ∷ low) ++ high = e ∙ ap (λ z. l ++ top ∷ z) f ∙ sym (append_assoc l (top ∷ low) high) in
      let t : Rises before ((l ++ top ∷ low) ++ high) = subst (Rises before) g s in
      let u = rising_front o (l ++ top ∷ low) high t in
      record {
        rising = u;
        all = g;
        all_low = all_both (λ x. before x at ≡ true) l (top ∷ low) (all_weaker (λ x. before x top ≡ true) (λ x. before x at ≡ true) (λ x p. o.then x top at p q) l (all_before o l top low u)) (q, a);
      }

  pub splits_front : (at top : K) (d l r low high : List K) → d ≡ l ++ top ∷ r → Rises before d → l ≡ low ++ high → before top at ≡ false → AllByRecursion (λ x. before x at ≡ false) high → SplitsFront before at top d low high r
  splits_front at top d l r low high e s f q a =
      let g : d ≡ low ++ (high ++ top ∷ r) = e ∙ ap (λ z. z ++ top ∷ r) f ∙ append_assoc low high (top ∷ r) in
      let t : Rises before (low ++ (high ++ top ∷ r)) = subst (Rises before) g s in
      let u = rising_back o low (high ++ top ∷ r) t in
      record {
        rising = u;
        all = g;
        all_high = all_both (λ x. before x at ≡ false) high (top ∷ r) a (q, all_weaker (λ x. before top x ≡ true) (λ x. before x at ≡ false) (λ x p. not_before_then o top x at p q) r (all_behind o high top r u));
      }

  -- ---- place

  pub place_between : (x : K) (low high : List K) → AllByRecursion (λ y. before y x ≡ true) low → AllByRecursion (λ y. before x y ≡ true) high → place before x (low ++ high) ≡ low ++ x ∷ high
  place_between x [] [] a b = refl
  place_between x [] (z ∷ high) a b = rw b.0
  place_between x (y ∷ low) high a b = rw (o.not_back y x a.0) (ap (λ z. y ∷ z) (place_between x low high a.1 b))

  placed : (x : K) (d e : List K) → e ≡ place before x d → has_key same x d ≡ false → Rises before d → Placed before x d e
  placed x d e q n s = record { is = q; rising = subst (Rises before) (sym q) (rising_place o x d n s) }

  pub placed_on_top : (x : K) (d low high : List K) → d ≡ low ++ high → Rises before d → has_key same x d ≡ false → AllByRecursion (λ y. before y x ≡ true) low → AllByRecursion (λ y. before y x ≡ false) high → Placed before x d (low ++ x ∷ high)
  placed_on_top x d low high e s n a b =
      placed x d (low ++ x ∷ high) (sym (ap (place before x) e ∙ place_between x low high a (up high b (all_back (λ y. same x y ≡ false) low high (none_any (same x) (low ++ high) (sym (ap (has_key same x) e) ∙ n)))))) n s
    where
      up : (ys : List K) → AllByRecursion (λ y. before y x ≡ false) ys → AllByRecursion (λ y. same x y ≡ false) ys → AllByRecursion (λ y. before x y ≡ true) ys
      up [] p q = tt
      up (y ∷ ys) p q = (then_before o x y p.0 q.0, up ys p.1 q.1)

  place_front : (x top : K) (l r : List K) → before x top ≡ true → place before x (l ++ top ∷ r) ≡ place before x l ++ top ∷ r
  place_front x top [] r q = rw q
  place_front x top (y ∷ l) r q = one (before x y) (place_front x top l r q)
    where
      one : (b : Bool) → place before x (l ++ top ∷ r) ≡ place before x l ++ top ∷ r → cond b (x ∷ y ∷ (l ++ top ∷ r)) (y ∷ place before x (l ++ top ∷ r)) ≡ cond b (x ∷ y ∷ l) (y ∷ place before x l) ++ top ∷ r
      one true e = refl
      one false e = ap (λ z. y ∷ z) e

  place_behind : (x top : K) (l r : List K) → AllByRecursion (λ y. before y x ≡ true) l → before top x ≡ true → place before x (l ++ top ∷ r) ≡ l ++ top ∷ place before x r
  place_behind x top [] r a q = rw (o.not_back top x q)
  place_behind x top (y ∷ l) r a q = rw (o.not_back y x a.0) (ap (λ z. y ∷ z) (place_behind x top l r a.1 q))

  pub is_apart : (x top : K) (d l r : List K) → d ≡ l ++ top ∷ r → has_key same x d ≡ false → IsApart same x top l r
  is_apart x top d l r e n =
      let m : (has_key same x l || (same x top || has_key same x r)) ≡ false = sym (any-append (same x) l (top ∷ r)) ∙ sym (ap (has_key same x) e) ∙ n in
      let k = or_second (has_key same x l) (same x top || has_key same x r) m in
      record { front = or_first (has_key same x l) _ m; between = or_first (same x top) (has_key same x r) k; behind = or_second (same x top) (has_key same x r) k }

  pub placed_front : (x top : K) (d l r new : List K) → d ≡ l ++ top ∷ r → Rises before d → has_key same x d ≡ false → before x top ≡ true → new ≡ place before x l → Placed before x d (new ++ top ∷ r)
  placed_front x top d l r new e s n q f = placed x d (new ++ top ∷ r) (ap (λ z. z ++ top ∷ r) f ∙ sym (place_front x top l r q) ∙ sym (ap (place before x) e)) n s

  pub placed_behind : (x top : K) (d l r new : List K) → d ≡ l ++ top ∷ r → Rises before d → has_key same x d ≡ false → before x top ≡ false → new ≡ place before x r → Placed before x d (l ++ top ∷ new)
  placed_behind x top d l r new e s n q f =
      let p : before top x ≡ true = then_before o top x q (same_turned o top x ∙ (is_apart x top d l r e n).between) in
      placed x d (l ++ top ∷ new)
      (ap (λ z. l ++ top ∷ z) f ∙ sym (place_behind x top l r (all_weaker (λ y. before y top ≡ true) (λ y. before y x ≡ true) (λ y k. o.then y top x k p) l (all_before o l top r (subst (Rises before) e s))) p) ∙ sym (ap (place before x) e))
      n s

  -- ---- without

  abbrev other : K → K → Bool
  other m x = not (same m x)

  without_by : (m : K) (d new : List K) (b : Bool) → new ≡ filter (other m) d → b ≡ has_key same m d → Rises before d → IsWithout before same m d new b
  without_by m d new b e f s = record { is = e; found = f; rising = subst (Rises before) (sym e) (rising_filter o (other m) d s) }

  others_stay : (m : K) (xs : List K) → AllByRecursion (λ x. same m x ≡ false) xs → filter (other m) xs ≡ xs
  others_stay m [] a = refl
  others_stay m (x ∷ xs) a = rw a.0 (ap (λ z. x ∷ z) (others_stay m xs a.1))

  pub without_front : (m top : K) (d l r new : List K) (b : Bool) → d ≡ l ++ top ∷ r → Rises before d → before m top ≡ true → new ≡ filter (λ x. not (same m x)) l → b ≡ has_key same m l → IsWithout before same m d (new ++ top ∷ r) b
  without_front m top d l r new b e s q f g =
      let far : AllByRecursion (λ x. same m x ≡ false) (top ∷ r) = (before_other o m top q, all_weaker (λ x. before top x ≡ true) (λ x. same m x ≡ false) (λ x p. before_other o m x (o.then m top x q p)) r (all_behind o l top r (subst (Rises before) e s))) in
      without_by m d (new ++ top ∷ r) b
      (ap (λ z. z ++ top ∷ r) f ∙ sym (ap (filter (other m)) e ∙ filter-append (other m) l (top ∷ r) ∙ ap (λ z. filter (other m) l ++ z) (others_stay m (top ∷ r) far)))
      (g ∙ sym (ap (has_key same m) e ∙ any-append (same m) l (top ∷ r) ∙ ap (λ z. has_key same m l || z) (any_none (same m) (top ∷ r) far) ∙ or_nothing (has_key same m l)))
      s

  pub without_behind : (m top : K) (d l r new : List K) (b : Bool) → d ≡ l ++ top ∷ r → Rises before d → before top m ≡ true → new ≡ filter (λ x. not (same m x)) r → b ≡ has_key same m r → IsWithout before same m d (l ++ top ∷ new) b
  without_behind m top d l r new b e s q f g =
      let t : Rises before (l ++ top ∷ r) = subst (Rises before) e s in
      let far : AllByRecursion (λ x. same m x ≡ false) l = all_weaker (λ x. before x top ≡ true) (λ x. same m x ≡ false) (λ x p. behind_other o x m (o.then x top m p q)) l (all_before o l top r t) in
      let here : same m top ≡ false = behind_other o top m q in
      without_by m d (l ++ top ∷ new) b
      (ap (λ z. l ++ top ∷ z) f
      ∙ sym (ap (filter (other m)) e ∙ filter-append (other m) l (top ∷ r) ∙ ap (λ z. z ++ filter (other m) (top ∷ r)) (others_stay m l far) ∙ ap (λ c. l ++ cond (not c) (top ∷ filter (other m) r) (filter (other m) r)) here))
      (g ∙ sym (ap (has_key same m) e ∙ any-append (same m) l (top ∷ r) ∙ ap (λ z. z || has_key same m (top ∷ r)) (any_none (same m) l far) ∙ ap (λ c. c || has_key same m r) here))
      s

  same_as : (m top x : K) → same m top ≡ true → same m x ≡ same top x
  same_as m top x p = ap (λ z. same z x) (o.is m top p)

  pub without_between : (m top : K) (d l r : List K) → d ≡ l ++ top ∷ r → Rises before d → before m top ≡ false → before top m ≡ false → IsWithout before same m d (l ++ r) true
  without_between m top d l r e s q k =
      let t : Rises before (l ++ top ∷ r) = subst (Rises before) e s in
      let is : same m top ≡ true = o.either m top q k in
      let front : AllByRecursion (λ x. same m x ≡ false) l = all_weaker (λ x. before x top ≡ true) (λ x. same m x ≡ false) (λ x p. same_as m top x is ∙ behind_other o x top p) l (all_before o l top r t) in
      let back : AllByRecursion (λ x. same m x ≡ false) r = all_weaker (λ x. before top x ≡ true) (λ x. same m x ≡ false) (λ x p. same_as m top x is ∙ before_other o top x p) r (all_behind o l top r t) in
      without_by m d (l ++ r) true
      (sym (ap (filter (other m)) e ∙ filter-append (other m) l (top ∷ r) ∙ ap (λ z. z ++ filter (other m) (top ∷ r)) (others_stay m l front) ∙ ap (λ c. l ++ cond (not c) (top ∷ filter (other m) r) (filter (other m) r)) is ∙ ap (λ z. l ++ z) (others_stay m r back)))
      (sym (ap (has_key same m) e ∙ any-append (same m) l (top ∷ r) ∙ ap (λ z. z || has_key same m (top ∷ r)) (any_none (same m) l front) ∙ ap (λ c. c || has_key same m r) is))
      s

  -- ---- one that is looked for

  pub has_front : (m top : K) (d l r : List K) → d ≡ l ++ top ∷ r → Rises before d → before m top ≡ true → has_key same m l ≡ has_key same m d
  has_front m top d l r e s q = (without_front m top d l r (filter (other m) l) (has_key same m l) e s q refl refl).found

  pub has_behind : (m top : K) (d l r : List K) → d ≡ l ++ top ∷ r → Rises before d → before top m ≡ true → has_key same m r ≡ has_key same m d
  has_behind m top d l r e s q = (without_behind m top d l r (filter (other m) r) (has_key same m r) e s q refl refl).found

  pub has_between : (m top : K) (d l r : List K) → d ≡ l ++ top ∷ r → Rises before d → before m top ≡ false → before top m ≡ false → true ≡ has_key same m d
  has_between m top d l r e s q k = (without_between m top d l r e s q k).found

  pub none_wanted : (wanted : K → Bool) (d l r : List K) (top : K) → d ≡ l ++ top ∷ r → Rises before d → find wanted l ≡ None → wanted top ≡ false → ((y : K) → before top y ≡ true → wanted y ≡ false) → find wanted d ≡ None
  none_wanted wanted d l r top e s f g late =
      wanted_behind wanted d l r top e f g
      ∙ find_nothing wanted r (all_weaker (λ x. before top x ≡ true) (λ x. wanted x ≡ false) late r (all_behind o l top r (subst (Rises before) e s)))
