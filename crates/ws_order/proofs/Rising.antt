-- An order of keys, and lists that rise by it.
use Rattle.std.proofs.Common.{◌≡◌, Bool, true, false, cond, ◌||◌, List, [], ◌∷◌, ◌++◌, refl, ap, sym, ◌∙◌, subst}
use Rattle.std.specs.Prelude.{filter}
use Rattle.std.specs.List.{AllByRecursion, list_any}
use Rattle.std.proofs.lemmas.Bool.{false≢true}
use Rattle.ws_model.specs.Due.{place}
use Rattle.ws_order.specs.Orders.{IsOrder, has_key, Rises}

-- ---- all members of a list

pub all_weaker : {X : Type 0} (P Q : X → Type 0) → ((x : X) → P x → Q x) → (xs : List X) → AllByRecursion P xs → AllByRecursion Q xs
all_weaker P Q f [] a = tt
all_weaker P Q f (x ∷ xs) a = (f x a.0, all_weaker P Q f xs a.1)

pub all_front : {X : Type 0} (P : X → Type 0) (xs ys : List X) → AllByRecursion P (xs ++ ys) → AllByRecursion P xs
all_front P [] ys a = tt
all_front P (x ∷ xs) ys a = (a.0, all_front P xs ys a.1)

pub all_back : {X : Type 0} (P : X → Type 0) (xs ys : List X) → AllByRecursion P (xs ++ ys) → AllByRecursion P ys
all_back P [] ys a = a
all_back P (x ∷ xs) ys a = all_back P xs ys a.1

pub all_both : {X : Type 0} (P : X → Type 0) (xs ys : List X) → AllByRecursion P xs → AllByRecursion P ys → AllByRecursion P (xs ++ ys)
all_both P [] ys a b = b
all_both P (x ∷ xs) ys a b = (a.0, all_both P xs ys a.1 b)

pub all_filter : {X : Type 0} (P : X → Type 0) (p : X → Bool) (xs : List X) → AllByRecursion P xs → AllByRecursion P (filter p xs)
all_filter P p [] a = tt
all_filter P p (x ∷ xs) a = one (p x) (all_filter P p xs a.1)
  where
    one : (b : Bool) → AllByRecursion P (filter p xs) → AllByRecursion P (cond b (x ∷ filter p xs) (filter p xs))
    one true r = (a.0, r)
    one false r = r

pub all_place : {X : Type 0} (P : X → Type 0) (b : X → X → Bool) (x : X) (xs : List X) → P x → AllByRecursion P xs → AllByRecursion P (place b x xs)
all_place P b x [] h a = (h, tt)
all_place P b x (y ∷ ys) h a = one (b x y) (all_place P b x ys h a.1)
  where
    one : (c : Bool) → AllByRecursion P (place b x ys) → AllByRecursion P (cond c (x ∷ y ∷ ys) (y ∷ place b x ys))
    one true r = (h, a)
    one false r = (a.0, r)

pub any-append : {X : Type 0} (p : X → Bool) (xs ys : List X) → list_any p (xs ++ ys) ≡ (list_any p xs || list_any p ys)
any-append p [] ys = refl
any-append p (x ∷ xs) ys = one (p x) (any-append p xs ys)
  where
    one : (b : Bool) → list_any p (xs ++ ys) ≡ (list_any p xs || list_any p ys) → (b || list_any p (xs ++ ys)) ≡ ((b || list_any p xs) || list_any p ys)
    one true r = refl
    one false r = r

pub any_none : {X : Type 0} (p : X → Bool) (xs : List X) → AllByRecursion (λ x. p x ≡ false) xs → list_any p xs ≡ false
any_none p [] a = refl
any_none p (x ∷ xs) a = rw a.0 (any_none p xs a.1)

pub none_any : {X : Type 0} (p : X → Bool) (xs : List X) → list_any p xs ≡ false → AllByRecursion (λ x. p x ≡ false) xs
none_any p [] e = tt
none_any p (x ∷ xs) e = one (p x) refl (none_any p xs) e
  where
    one : (b : Bool) → p x ≡ b → (list_any p xs ≡ false → AllByRecursion (λ y. p y ≡ false) xs) → (b || list_any p xs) ≡ false → (p x ≡ false) × AllByRecursion (λ y. p y ≡ false) xs
    one true q r e = absurd (false≢true (sym e))
    one false q r e = (q, r e)

-- ---- an order, and lists that rise by it

module _ {K : Type 0} {before same : K → K → Bool} (o : IsOrder before same) where
  pub before_other : (x y : K) → before x y ≡ true → same x y ≡ false
  before_other x y p = by (same x y) refl
    where
      by : (b : Bool) → same x y ≡ b → b ≡ false
      by true r = sym p ∙ sym (ap (λ z. before x z) (o.is x y r)) ∙ ap (λ z. before z x) (o.is x y r) ∙ o.not_back x y p
      by false r = refl

  pub same_turned : (x y : K) → same x y ≡ same y x
  same_turned x y = by (same x y) (same y x) refl refl
    where
      turned : (x y : K) → same x y ≡ true → same y x ≡ true
      turned x y p = subst (λ z. same z x ≡ true) (o.is x y p) (o.itself x)

      by : (a b : Bool) → same x y ≡ a → same y x ≡ b → a ≡ b
      by true b p q = sym (turned x y p) ∙ q
      by false true p q = sym p ∙ turned y x q
      by false false p q = refl

  pub behind_other : (x y : K) → before x y ≡ true → same y x ≡ false
  behind_other x y p = same_turned y x ∙ before_other x y p

  pub then_before : (x y : K) → before y x ≡ false → same x y ≡ false → before x y ≡ true
  then_before x y p q = by (before x y) refl
    where
      by : (b : Bool) → before x y ≡ b → b ≡ true
      by true r = refl
      by false r = sym q ∙ o.either x y r p

  -- what stands behind one that isn't before z isn't before z
  pub not_before_then : (x y z : K) → before x y ≡ true → before x z ≡ false → before y z ≡ false
  not_before_then x y z p q = by (before y z) refl
    where
      by : (b : Bool) → before y z ≡ b → b ≡ false
      by true r = sym (o.then x y z p r) ∙ q
      by false r = refl

  pub rising_front : (xs ys : List K) → Rises before (xs ++ ys) → Rises before xs
  rising_front [] ys s = tt
  rising_front (x ∷ xs) ys s = (all_front (λ y. before x y ≡ true) xs ys s.0, rising_front xs ys s.1)

  pub rising_back : (xs ys : List K) → Rises before (xs ++ ys) → Rises before ys
  rising_back [] ys s = s
  rising_back (x ∷ xs) ys s = rising_back xs ys s.1

  pub rising_filter : (p : K → Bool) (xs : List K) → Rises before xs → Rises before (filter p xs)
  rising_filter p [] s = tt
  rising_filter p (x ∷ xs) s = one (p x) (rising_filter p xs s.1)
    where
      one : (b : Bool) → Rises before (filter p xs) → Rises before (cond b (x ∷ filter p xs) (filter p xs))
      one true r = (all_filter (λ y. before x y ≡ true) p xs s.0, r)
      one false r = r

  -- the members before one that stands between
  pub all_before : (l : List K) (top : K) (r : List K) → Rises before (l ++ top ∷ r) → AllByRecursion (λ x. before x top ≡ true) l
  all_before [] top r s = tt
  all_before (x ∷ l) top r s = ((all_back (λ y. before x y ≡ true) l (top ∷ r) s.0).0, all_before l top r s.1)

  pub all_behind : (l : List K) (top : K) (r : List K) → Rises before (l ++ top ∷ r) → AllByRecursion (λ x. before top x ≡ true) r
  all_behind l top r s = (rising_back l (top ∷ r) s).0

  pub rising_place : (x : K) (xs : List K) → has_key same x xs ≡ false → Rises before xs → Rises before (place before x xs)
  rising_place x [] e s = (tt, tt)
  rising_place x (y ∷ ys) e s =
      let apart = none_any (same x) (y ∷ ys) e in
      one (before x y) refl apart.0 (rising_place x ys (any_none (same x) ys apart.1) s.1)
    where
      one : (b : Bool) → before x y ≡ b → same x y ≡ false → Rises before (place before x ys) → Rises before (cond b (x ∷ y ∷ ys) (y ∷ place before x ys))
      one true q a r = ((q, all_weaker (λ z. before y z ≡ true) (λ z. before x z ≡ true) (λ z k. o.then x y z q k) ys s.0), s)
      one false q a r = (all_place (λ z. before y z ≡ true) before x ys (then_before y x q (same_turned y x ∙ a)) s.0, r)
