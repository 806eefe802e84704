-- The index of first pairs follows the open pairs.
use Rattle.std.proofs.Common.{◌≡◌, ℕ, ◌<◌, Bool, true, false, not, cond, ◌&&◌, ◌||◌, List, [], ◌∷◌, refl, ap, sym, ◌∙◌, subst, arith}
use Rattle.std.specs.Prelude.{filter, ◌==◌, Option, Some, None, IfSome, IsSomeAnd}
use Rattle.std.specs.Map.{keys_of}
use Rattle.std.specs.List.{list_any}
use Rattle.std.specs.List.Sorted.{IsStrictlySortedBy}
use Rattle.std.proofs.lemmas.Bool.Decides.{nat_tests}
use Rattle.ws_model.specs.Due.{place}
use Rattle.ws_order.specs.declared.next_try.NextTry.{NextTry}
use Rattle.ws_order.specs.NextTries.{before, same, has}
use Rattle.ws_order.specs.NextTryOrder.{next_tries_order}
use Rattle.ws_order.proofs.Rising.{same_turned}
use Rattle.ws_delivery.specs.declared.open_pair.OpenPair.{OpenPair}
use Rattle.ws_delivery.specs.Table.{Rows, pair_order, pair_at, is_here}
use Rattle.ws_delivery.specs.Indexed.{IsIndexed, head_try, is_it, try_of}
use Rattle.ws_delivery.proofs.RowsByKey.{ascends, head_is, is_head, no_head, same_head}

-- one pair changes, and no other
abbrev pub Looks : Rows → Rows → ℕ → ℕ → Option OpenPair → Type 0
Looks old new ver lease x = (v n : ℕ) → pair_at v n new ≡ cond (is_here ver lease v n) x (pair_at v n old)

-- the pair that is put there, if one is, has few tries and the end of its lease
abbrev pub Fits : Rows → ℕ → Option OpenPair → Type 0
Fits old lease x = IfSome x (λ p. (p.tries < 8) × ((v : ℕ) → IfSome (pair_at v lease old) (λ q. q.exp ≡ p.exp)))

-- ---- the ends and the tries

abbrev Agree : Option OpenPair → Option OpenPair → Type 0
Agree o q = IfSome o (λ p. IfSome q (λ r. p.exp ≡ r.exp))

turned : (o q : Option OpenPair) → Agree o q → Agree q o
turned None None a = tt
turned None (Some r) a = tt
turned (Some p) None a = tt
turned (Some p) (Some r) a = sym a

itself : (o : Option OpenPair) → Agree o o
itself None = tt
itself (Some p) = refl

fits_agree : (old : Rows) (lease v : ℕ) (x : Option OpenPair) → Fits old lease x → Agree (pair_at v lease old) x
fits_agree old lease v None f = none (pair_at v lease old)
  where
    none : (o : Option OpenPair) → Agree o None
    none None = tt
    none (Some p) = tt
fits_agree old lease v (Some p) f = f.1 v

here_lease : (ver lease v n : ℕ) → is_here ver lease v n ≡ true → lease ≡ n
here_lease ver lease v n e = grind (arith, nat_tests)

changed_ends : (old new : Rows) (ver lease : ℕ) (x : Option OpenPair) → Looks old new ver lease x → Fits old lease x → ((n v w : ℕ) → Agree (pair_at v n old) (pair_at w n old)) → (n v w : ℕ) → Agree (pair_at v n new) (pair_at w n new)
changed_ends old new ver lease x look fits ends n v w =
    subst (λ o. Agree o (pair_at w n new)) (sym (look v n)) (subst (λ o. Agree (cond (is_here ver lease v n) x (pair_at v n old)) o) (sym (look w n)) (by (is_here ver lease v n) refl (is_here ver lease w n) refl))
  where
    by : (b : Bool) → is_here ver lease v n ≡ b → (c : Bool) → is_here ver lease w n ≡ c → Agree (cond b x (pair_at v n old)) (cond c x (pair_at w n old))
    by true p true q = itself x
    by true p false q = turned (pair_at w n old) x (subst (λ m. Agree (pair_at w m old) x) (here_lease ver lease v n p) (fits_agree old lease w x fits))
    by false p true q = subst (λ m. Agree (pair_at v m old) x) (here_lease ver lease w n q) (fits_agree old lease v x fits)
    by false p false q = ends n v w

changed_few : (old new : Rows) (ver lease : ℕ) (x : Option OpenPair) → Looks old new ver lease x → Fits old lease x → ((n v : ℕ) → IfSome (pair_at v n old) (λ p. p.tries < 8)) → (n v : ℕ) → IfSome (pair_at v n new) (λ p. p.tries < 8)
changed_few old new ver lease x look fits few n v = subst (λ o. IfSome o (λ p. p.tries < 8)) (sym (look v n)) (by (is_here ver lease v n))
  where
    small : (o : Option OpenPair) → Fits old lease o → IfSome o (λ p. p.tries < 8)
    small None f = tt
    small (Some p) f = f.0

    by : (b : Bool) → IfSome (cond b x (pair_at v n old)) (λ p. p.tries < 8)
    by true = small x fits
    by false = few n v

pub indexed_after : (old new : Rows) (heads heads' : List NextTry) (ver lease : ℕ) (x : Option OpenPair) → IsIndexed old heads → IsStrictlySortedBy pair_order (keys_of new) → Looks old new ver lease x → Fits old lease x → ((y : NextTry) → has y heads' ≡ is_it y (head_try y.lease new)) → IsIndexed new heads'
indexed_after old new heads heads' ver lease x i sorted look fits headed =
    record {
      ordered = sorted;
      one_end = changed_ends old new ver lease x look fits i.one_end;
      few = changed_few old new ver lease x look fits i.few;
      headed = headed;
    }

-- a pair that is changed keeps the end of its lease
pub fits_same : (old : Rows) (heads : List NextTry) (ver lease : ℕ) (p : OpenPair) → IsIndexed old heads → IsSomeAnd (pair_at ver lease old) (λ q. q.exp ≡ p.exp) → p.tries < 8 → Fits old lease (Some p)
fits_same old heads ver lease p i k l = (l, λ v. by (pair_at v lease old) (pair_at ver lease old) (i.one_end lease v ver) k)
  where
    by : (o q : Option OpenPair) → Agree o q → IsSomeAnd q (λ r. r.exp ≡ p.exp) → IfSome o (λ r. r.exp ≡ p.exp)
    by None q a k = tt
    by (Some r) None a k = absurd k
    by (Some r) (Some q) a k = a ∙ k

-- ---- the heads

other_lease : (old new : Rows) (ver lease : ℕ) (x : Option OpenPair) → Looks old new ver lease x → (n : ℕ) → (n == lease) ≡ false → (v : ℕ) → pair_at v n new ≡ pair_at v n old
other_lease old new ver lease x look n e v = look v n ∙ ap (λ b. cond b x (pair_at v n old)) (apart ver lease v n e)
  where
    apart : (ver lease v n : ℕ) → (n == lease) ≡ false → ((lease == n) && (ver == v)) ≡ false
    apart ver lease v n e = grind (arith, nat_tests)

-- a try of one lease isn't the first of another one
not_it : (x : NextTry) (n : ℕ) (o : Option NextTry) → (x.lease == n) ≡ false → IfSome o (λ y. y.lease ≡ n) → is_it x o ≡ false
not_it x n None e f = refl
not_it x n (Some y) e f = by x.at x.ver x.lease x.exp y.at y.ver y.lease y.exp n e f
  where
    by : (a b c d f g h i n : ℕ) → (c == n) ≡ false → h ≡ n → ((a == f) && ((b == g) && ((c == h) && (d == i)))) ≡ false
    by a b c d f g h i n e k = grind (arith, nat_tests)

head_lease : (n : ℕ) (rows : Rows) → IsStrictlySortedBy pair_order (keys_of rows) → IfSome (head_try n rows) (λ y. y.lease ≡ n)
head_lease n rows s = by (head_try n rows) refl
  where
    by : (o : Option NextTry) → head_try n rows ≡ o → IfSome o (λ y. y.lease ≡ n)
    by None e = tt
    by (Some x) e = (head_is n rows x (ascends rows s) e).of_lease

eq_lease : (m n : ℕ) → (m == n) ≡ true → m ≡ n
eq_lease m n e = grind (arith, nat_tests)

taken_back : (b c : Bool) → (b || (c && not c)) ≡ b
taken_back true c = refl
taken_back false true = refl
taken_back false false = refl

kept_on : (c : Bool) → (false || (c && not false)) ≡ c
kept_on true = refl
kept_on false = refl

pub headed_after : (old new : Rows) (heads heads' : List NextTry) (ver lease : ℕ) (x : Option OpenPair) (b : NextTry) → IsIndexed old heads → IsStrictlySortedBy pair_order (keys_of new) → Looks old new ver lease x → head_try lease old ≡ Some b
    → ((y : NextTry) → has y heads' ≡ (is_it y (head_try lease new) || (has y heads && not (same b y)))) → (y : NextTry) → has y heads' ≡ is_it y (head_try y.lease new)
headed_after old new heads heads' ver lease x b i sorted look first follow y = follow y ∙ by (y.lease == lease) refl
  where
    by : (c : Bool) → (y.lease == lease) ≡ c → (is_it y (head_try lease new) || (has y heads && not (same b y))) ≡ is_it y (head_try y.lease new)
    by true e =
        ap (λ z. is_it y (head_try lease new) || (z && not (same b y))) (i.headed y ∙ ap (λ m. is_it y (head_try m old)) (eq_lease y.lease lease e) ∙ ap (is_it y) first ∙ same_turned next_tries_order y b)
        ∙ taken_back (is_it y (head_try lease new)) (same b y)
        ∙ ap (λ m. is_it y (head_try m new)) (sym (eq_lease y.lease lease e))
    by false e =
        ap (λ z. z || (has y heads && not (same b y))) (not_it y lease (head_try lease new) e (head_lease lease new sorted))
        ∙ ap (λ z. false || (has y heads && not z)) (same_turned next_tries_order b y ∙ not_it y lease (Some b) e (subst (λ o. IfSome o (λ z. z.lease ≡ lease)) first (head_lease lease old i.ordered)))
        ∙ kept_on (has y heads)
        ∙ i.headed y
        ∙ ap (is_it y) (sym (same_head y.lease old new (ascends old i.ordered) (ascends new sorted) (other_lease old new ver lease x look y.lease e)))

-- where the first pair of a lease is put in the place of an old one, it isn't in the order yet
pub head_is_new : (old : Rows) (heads : List NextTry) (lease : ℕ) (b : NextTry) (o : Option NextTry) → IsIndexed old heads → head_try lease old ≡ Some b → IfSome o (λ y. y.lease ≡ lease) → IfSome o (λ y. (has y heads && not (same b y)) ≡ false)
head_is_new old heads lease b None i first f = tt
head_is_new old heads lease b (Some y) i first f =
    ap (λ z. z && not (same b y)) (i.headed y ∙ ap (λ m. is_it y (head_try m old)) f ∙ ap (is_it y) first ∙ same_turned next_tries_order y b) ∙ taken_back false (same b y)

pub head_is_there : (old : Rows) (heads : List NextTry) (lease : ℕ) (b : NextTry) → IsIndexed old heads → head_try lease old ≡ Some b → has b heads ≡ true
head_is_there old heads lease b i first =
    i.headed b ∙ ap (λ m. is_it b (head_try m old)) (subst (λ o. IfSome o (λ z. z.lease ≡ lease)) first (head_lease lease old i.ordered)) ∙ ap (is_it b) first ∙ self b.at b.ver b.lease b.exp
  where
    self : (a b c d : ℕ) → ((a == a) && ((b == b) && ((c == c) && (d == d)))) ≡ true
    self a b c d = grind (arith, nat_tests)

pub head_leases : (n : ℕ) (rows : Rows) → IsStrictlySortedBy pair_order (keys_of rows) → IfSome (head_try n rows) (λ y. y.lease ≡ n)
head_leases = head_lease

-- all pairs of a lease end when its first one does
pub ends_with_first : (rows : Rows) (heads : List NextTry) (n : ℕ) (o : Option NextTry) → IsIndexed rows heads → head_try n rows ≡ o → IfSome o (λ x. (v : ℕ) → IfSome (pair_at v n rows) (λ p. p.exp ≡ x.exp))
ends_with_first rows heads n None i e = tt
ends_with_first rows heads n (Some x) i e = λ v.
    let h = head_is n rows x (ascends rows i.ordered) e in
    by (pair_at v n rows) (pair_at x.ver n rows) (i.one_end n v x.ver) h.pair h.open_pair (ap (λ (z : NextTry). z.exp) h.is)
  where
    by : (o q : Option OpenPair) → Agree o q → (p : OpenPair) → q ≡ Some p → x.exp ≡ p.exp → IfSome o (λ r. r.exp ≡ x.exp)
    by None q a p k l = tt
    by (Some r) None a p k l = absurd (cc)
    by (Some r) (Some q) a p k l = let z : q ≡ p = cc in a ∙ ap (λ (y : OpenPair). y.exp) z ∙ sym l

-- the first pair of a lease is open
pub first_is_open : (rows : Rows) (n : ℕ) (x : NextTry) → IsStrictlySortedBy pair_order (keys_of rows) → head_try n rows ≡ Some x → (v : ℕ) × IsSomeAnd (pair_at v n rows) (λ p. p.exp ≡ x.exp)
first_is_open rows n x s e =
    let h = head_is n rows x (ascends rows s) e in
    (x.ver, subst (λ o. IsSomeAnd o (λ p. p.exp ≡ x.exp)) (sym h.open_pair) (sym (ap (λ (z : NextTry). z.exp) h.is)))

-- ---- the first pair of a lease that had none

pub any_place : (p : NextTry → Bool) (x : NextTry) (xs : List NextTry) → list_any p (place before x xs) ≡ (p x || list_any p xs)
any_place p x [] = refl
any_place p x (y ∷ ys) = one (before x y) (any_place p x ys)
  where
    swap : (a b c : Bool) → (a || (b || c)) ≡ (b || (a || c))
    swap true true c = refl
    swap true false c = refl
    swap false b c = refl

    one : (b : Bool) → list_any p (place before x ys) ≡ (p x || list_any p ys) → list_any p (cond b (x ∷ y ∷ ys) (y ∷ place before x ys)) ≡ (p x || (p y || list_any p ys))
    one true r = refl
    one false r = ap (λ z. p y || z) r ∙ swap (p y) (p x) (list_any p ys)

pub none_there : (old : Rows) (heads : List NextTry) (y : NextTry) → IsIndexed old heads → head_try y.lease old ≡ None → has y heads ≡ false
none_there old heads y i e = i.headed y ∙ ap (is_it y) e

pub headed_first : (old new : Rows) (heads : List NextTry) (ver lease : ℕ) (p : OpenPair) → IsIndexed old heads → IsStrictlySortedBy pair_order (keys_of new) → Looks old new ver lease (Some p) → head_try lease old ≡ None
    → (y : NextTry) → has y (place before (try_of ((lease, ver), p)) heads) ≡ is_it y (head_try y.lease new)
headed_first old new heads ver lease p i sorted look none y = any_place (same y) (try_of ((lease, ver), p)) heads ∙ by (y.lease == lease) refl
  where
    self : (n v : ℕ) → ((n == n) && (v == v)) ≡ true
    self n v = grind (arith, nat_tests)

    apart : (n v w : ℕ) → w < v → ((n == n) && (v == w)) ≡ false
    apart n v w k = grind (arith, nat_tests)

    first : head_try lease new ≡ Some (try_of ((lease, ver), p))
    first =
        is_head lease ver p new (ascends new sorted) (look ver lease ∙ ap (λ b. cond b (Some p) (pair_at ver lease old)) (self lease ver))
        (λ w k. look w lease ∙ ap (λ b. cond b (Some p) (pair_at w lease old)) (apart lease ver w k) ∙ no_head lease old none w)

    nothing : (b : Bool) → (b || false) ≡ b
    nothing true = refl
    nothing false = refl

    by : (c : Bool) → (y.lease == lease) ≡ c → (same y (try_of ((lease, ver), p)) || has y heads) ≡ is_it y (head_try y.lease new)
    by true e =
        ap (λ z. same y (try_of ((lease, ver), p)) || z) (none_there old heads y i (ap (λ m. head_try m old) (eq_lease y.lease lease e) ∙ none))
        ∙ nothing _ ∙ ap (is_it y) (sym first) ∙ ap (λ m. is_it y (head_try m new)) (sym (eq_lease y.lease lease e))
    by false e =
        ap (λ z. z || has y heads) (not_it y lease (Some (try_of ((lease, ver), p))) e refl)
        ∙ i.headed y
        ∙ ap (is_it y) (sym (same_head y.lease old new (ascends old i.ordered) (ascends new sorted) (other_lease old new ver lease (Some p) look y.lease e)))

pub has_without : (b x : NextTry) (xs : List NextTry) → has x (filter (λ y. not (same b y)) xs) ≡ (has x xs && not (same b x))
has_without b x [] = refl
has_without b x (y ∷ ys) = one (same b y) refl (same x y) refl (has_without b x ys)
  where
    no_more : (c : Bool) → (c && false) ≡ false
    no_more true = refl
    no_more false = refl

    one : (c : Bool) → same b y ≡ c → (d : Bool) → same x y ≡ d → has x (filter (λ y. not (same b y)) ys) ≡ (has x ys && not (same b x)) → has x (cond (not c) (y ∷ filter (λ y. not (same b y)) ys) (filter (λ y. not (same b y)) ys)) ≡ ((d || has x ys) && not (same b x))
    one true p true q r = r ∙ ap (λ z. has x ys && not z) (ap (same b) (next_tries_order.is x y q) ∙ p) ∙ no_more (has x ys) ∙ sym (ap (λ z. not z) (ap (same b) (next_tries_order.is x y q) ∙ p))
    one true p false q r = r
    one false p true q r = ap (λ z. z || has x (filter (λ y. not (same b y)) ys)) q ∙ sym (ap (λ z. not z) (ap (same b) (next_tries_order.is x y q) ∙ p))
    one false p false q r = ap (λ z. z || has x (filter (λ y. not (same b y)) ys)) q ∙ r
