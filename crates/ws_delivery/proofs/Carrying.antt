-- How far a lease's open pairs have been carried over.
use Rattle.std.proofs.Common.{◌≡◌, ℕ, ◌<◌, ◌≤◌, Bool, true, false, not, cond, ◌&&◌, ◌||◌, List, [], ◌∷◌, refl, ap, sym, ◌∙◌, subst, arith, length}
use Rattle.std.specs.Prelude.{filter, nat_lt, ◌==◌, Option, Some, None, IfSome, IsSome, is_some}
use Rattle.std.specs.List.{list_any}
use Rattle.std.proofs.lemmas.Bool.{false≢true}
use Rattle.std.proofs.lemmas.Bool.Decides.{nat_tests}
use Rattle.ws_delivery.specs.declared.open_pair.OpenPair.{OpenPair}
use Rattle.ws_delivery.specs.Table.{Rows, pair_order, pair_at, is_here, is_of_lease, fresh, carried, IsNextOpen}
use Rattle.std.specs.Map.{keys_of}
use Rattle.std.specs.List.Sorted.{IsStrictlySortedBy}
use Rattle.ws_order.specs.declared.next_try.NextTry.{NextTry}
use Rattle.ws_delivery.specs.Indexed.{head_try}
use Rattle.ws_delivery.proofs.RowsByKey.{look_at, ascends, head_is}

-- the version was carried over already
abbrev pub is_done : Option ℕ → ℕ → Bool
is_done None v = true
is_done (Some u) v = nat_lt v u

-- the versions before the next one were carried over, and nothing else has changed
pub record IsCarried (exp t old new : ℕ) (start now : Rows) (next : Option ℕ) : Type 0 where
  pub others : (v n : ℕ) → (new == n) ≡ false → pair_at v n now ≡ pair_at v n start
  pub moved : (v : ℕ) → pair_at v new now ≡ cond (is_done next v) (carried exp t (pair_at v old start)) None
  pub following : IfSome next (λ u. IsSome (pair_at u old start))

-- how many are still to be carried over
abbrev pub is_left : ℕ → Option ℕ → (ℕ × ℕ) × OpenPair → Bool
is_left old next e = is_of_lease old e && not (is_done next e.0.1)

abbrev pub number_left : ℕ → Rows → Option ℕ → ℕ
number_left old start next = length (filter (is_left old next) start)

-- ---- the measure

fewer_or_same : {X : Type 0} (p q : X → Bool) → ((x : X) → q x ≡ true → p x ≡ true) → (xs : List X) → length (filter q xs) ≤ length (filter p xs)
fewer_or_same p q f [] = omega arith
fewer_or_same p q f (x ∷ xs) = one (q x) (p x) (f x) (fewer_or_same p q f xs)
  where
    one : (b c : Bool) → (b ≡ true → c ≡ true) → length (filter q xs) ≤ length (filter p xs) → length (cond b (x ∷ filter q xs) (filter q xs)) ≤ length (cond c (x ∷ filter p xs) (filter p xs))
    one true true k l = omega arith
    one true false k l = absurd (false≢true (k refl))
    one false true k l = omega arith
    one false false k l = l

fewer : {X : Type 0} (p q : X → Bool) → ((x : X) → q x ≡ true → p x ≡ true) → (xs : List X) → list_any (λ x. p x && not (q x)) xs ≡ true → length (filter q xs) < length (filter p xs)
fewer p q f [] e = absurd (false≢true e)
fewer p q f (x ∷ xs) e = one (q x) (p x) (f x) e (fewer_or_same p q f xs) (fewer p q f xs)
  where
    one : (b c : Bool) → (b ≡ true → c ≡ true) → ((c && not b) || list_any (λ x. p x && not (q x)) xs) ≡ true → length (filter q xs) ≤ length (filter p xs) → (list_any (λ x. p x && not (q x)) xs ≡ true → length (filter q xs) < length (filter p xs))
        → length (cond b (x ∷ filter q xs) (filter q xs)) < length (cond c (x ∷ filter p xs) (filter p xs))
    one true true k e l m = let n = m e in omega arith
    one true false k e l m = absurd (false≢true (k refl))
    one false true k e l m = omega arith
    one false false k e l m = m e

any_at : (f : (ℕ × ℕ) × OpenPair → Bool) (v n : ℕ) (rows : Rows) → ((e : (ℕ × ℕ) × OpenPair) → is_here v n e.0.1 e.0.0 ≡ true → f e ≡ true) → IsSome (pair_at v n rows) → list_any f rows ≡ true
any_at f v n [] g k = absurd (false≢true k)
any_at f v n (e ∷ rows) g k = one (is_here v n e.0.1 e.0.0) (g e) (sym (ap is_some (look_at v n e rows)) ∙ k) (any_at f v n rows g)
  where
    or_true : (b : Bool) → (b || true) ≡ true
    or_true true = refl
    or_true false = refl

    one : (b : Bool) → (b ≡ true → f e ≡ true) → is_some (cond b (Some e.1) (pair_at v n rows)) ≡ true → (IsSome (pair_at v n rows) → list_any f rows ≡ true) → (f e || list_any f rows) ≡ true
    one true g k h = ap (λ z. z || list_any f rows) (g refl)
    one false g k h = ap (λ z. f e || z) (h k) ∙ or_true (f e)

pub left_smaller : (old u : ℕ) (start now : Rows) (next : Option ℕ) → ((w : ℕ) → pair_at w old now ≡ pair_at w old start) → IsSome (pair_at u old start) → IsNextOpen u old now next → number_left old start next < number_left old start (Some u)
left_smaller old u start now next same k f =
    fewer (is_left old (Some u)) (is_left old next) (λ e q. still (is_of_lease old e) e.0.1 next f q) start
    (any_at (λ e. is_left old (Some u) e && not (is_left old next e)) u old start (λ e q. gone e.0.0 e.0.1 next f q) k)
  where
    still : (b : Bool) (v : ℕ) (next : Option ℕ) → IsNextOpen u old now next → (b && not (is_done next v)) ≡ true → (b && not (nat_lt v u)) ≡ true
    still true v None f q = absurd (false≢true q)
    still true v (Some x) f q = higher v x f.0 q
      where
        higher : (v x : ℕ) → u < x → not (nat_lt v x) ≡ true → not (nat_lt v u) ≡ true
        higher v x l q = grind (arith, nat_tests)
    still false v next f q = q

    gone : (m w : ℕ) (next : Option ℕ) → IsNextOpen u old now next → ((old == m) && (u == w)) ≡ true → (((m == old) && not (nat_lt w u)) && not ((m == old) && not (is_done next w))) ≡ true
    gone m w None f q = by m w q
      where
        by : (m w : ℕ) → ((old == m) && (u == w)) ≡ true → (((m == old) && not (nat_lt w u)) && not ((m == old) && false)) ≡ true
        by m w q = grind (arith, nat_tests)
    gone m w (Some x) f q = by m w x f.0 q
      where
        by : (m w x : ℕ) → u < x → ((old == m) && (u == w)) ≡ true → (((m == old) && not (nat_lt w u)) && not ((m == old) && not (nat_lt w x))) ≡ true
        by m w x l q = grind (arith, nat_tests)

-- ---- one more

differ : (old new u : ℕ) (start : Rows) → ((v : ℕ) → pair_at v new start ≡ None) → IsSome (pair_at u old start) → (new == old) ≡ false
differ old new u start none k = by (new == old) refl
  where
    eq : (new == old) ≡ true → new ≡ old
    eq q = grind (arith, nat_tests)

    by : (b : Bool) → (new == old) ≡ b → b ≡ false
    by true q = absurd (false≢true (sym (ap is_some (sym (ap (λ z. pair_at u z start) (eq q)) ∙ none u)) ∙ k))
    by false q = refl

pub one_carried : (exp t old new u : ℕ) (start now after : Rows) (next : Option ℕ) → ((v : ℕ) → pair_at v new start ≡ None) → IsCarried exp t old new start now (Some u)
    → ((v n : ℕ) → pair_at v n after ≡ cond (is_here u new v n) (Some (fresh exp t)) (pair_at v n now)) → IsNextOpen u old after next → IsCarried exp t old new start after next
one_carried exp t old new u start now after next none i look f =
    record {
      others = others;
      moved = moved;
      following = ahead next f;
    }
  where
    apart : (new == old) ≡ false
    apart = differ old new u start none i.following

    not_here : (v n : ℕ) → (new == n) ≡ false → is_here u new v n ≡ false
    not_here v n q = ap (λ b. b && (u == v)) q

    others : (v n : ℕ) → (new == n) ≡ false → pair_at v n after ≡ pair_at v n start
    others v n q = look v n ∙ ap (λ b. cond b (Some (fresh exp t)) (pair_at v n now)) (not_here v n q) ∙ i.others v n q

    ahead : (o : Option ℕ) → IsNextOpen u old after o → IfSome o (λ w. IsSome (pair_at w old start))
    ahead None f = tt
    ahead (Some w) f = ap is_some (sym (others w old apart)) ∙ f.1

    fresh_here : (o : Option OpenPair) → IsSome o → Some (fresh exp t) ≡ carried exp t o
    fresh_here None k = absurd (false≢true k)
    fresh_here (Some p) k = refl

    self : (n : ℕ) → (n == n) ≡ true
    self n = grind (arith, nat_tests)

    eq : (v : ℕ) → (u == v) ≡ true → u ≡ v
    eq v q = grind (arith, nat_tests)

    passed : (v : ℕ) (o : Option ℕ) → IsNextOpen u old after o → (u == v) ≡ true → is_done o v ≡ true
    passed v None f q = refl
    passed v (Some x) f q = below v x f.0 q
      where
        below : (v x : ℕ) → u < x → (u == v) ≡ true → nat_lt v x ≡ true
        below v x l q = grind (arith, nat_tests)

    lower : (v : ℕ) (o : Option ℕ) → IsNextOpen u old after o → nat_lt v u ≡ true → is_done o v ≡ true
    lower v None f q = refl
    lower v (Some x) f q = below v x f.0 q
      where
        below : (v x : ℕ) → u < x → nat_lt v u ≡ true → nat_lt v x ≡ true
        below v x l q = grind (arith, nat_tests)

    above : (v : ℕ) → (u == v) ≡ false → nat_lt v u ≡ false → u < v
    above v p q = grind (arith, nat_tests)

    lt : (v x : ℕ) → nat_lt v x ≡ true → v < x
    lt v x q = grind (arith, nat_tests)

    -- of what stands behind, what is passed over isn't open
    skipped : (v : ℕ) → u < v → (o : Option ℕ) → IsNextOpen u old after o → None ≡ cond (is_done o v) (carried exp t (pair_at v old start)) None
    skipped v l None f = ap (carried exp t) (sym (sym (others v old apart) ∙ f v l))
    skipped v l (Some x) f = by (nat_lt v x) refl
      where
        by : (b : Bool) → nat_lt v x ≡ b → None ≡ cond b (carried exp t (pair_at v old start)) None
        by true q = ap (carried exp t) (sym (sym (others v old apart) ∙ f.2 v l (lt v x q)))
        by false q = refl

    moved : (v : ℕ) → pair_at v new after ≡ cond (is_done next v) (carried exp t (pair_at v old start)) None
    moved v = look v new ∙ ap (λ b. cond (b && (u == v)) (Some (fresh exp t)) (pair_at v new now)) (self new) ∙ ap (λ z. cond (u == v) (Some (fresh exp t)) z) (i.moved v) ∙ by (u == v) refl (nat_lt v u) refl
      where
        by : (b : Bool) → (u == v) ≡ b → (c : Bool) → nat_lt v u ≡ c → cond b (Some (fresh exp t)) (cond (nat_lt v u) (carried exp t (pair_at v old start)) None) ≡ cond (is_done next v) (carried exp t (pair_at v old start)) None
        by true p c q = fresh_here (pair_at v old start) (subst (λ z. IsSome (pair_at z old start)) (eq v p) i.following) ∙ sym (ap (λ b. cond b (carried exp t (pair_at v old start)) None) (passed v next f p))
        by false p true q = ap (λ b. cond b (carried exp t (pair_at v old start)) None) q ∙ sym (ap (λ b. cond b (carried exp t (pair_at v old start)) None) (lower v next f q))
        by false p false q = ap (λ b. cond b (carried exp t (pair_at v old start)) None) q ∙ skipped v (above v p q) next f

-- ---- the ends

pub nothing_carried : (exp t old new : ℕ) (start : Rows) (next : Option ℕ) → ((v : ℕ) → pair_at v new start ≡ None) → IfSome next (λ u. IsSome (pair_at u old start) × ((w : ℕ) → w < u → pair_at w old start ≡ None)) → (next ≡ None → (v : ℕ) → pair_at v old start ≡ None)
    → IsCarried exp t old new start start next
nothing_carried exp t old new start next none f g =
    record { others = λ v n q. refl; moved = λ v. none v ∙ by v next f g; following = ahead next f }
  where
    lt : (v x : ℕ) → nat_lt v x ≡ true → v < x
    lt v x q = grind (arith, nat_tests)

    ahead : (o : Option ℕ) → IfSome o (λ u. IsSome (pair_at u old start) × ((w : ℕ) → w < u → pair_at w old start ≡ None)) → IfSome o (λ u. IsSome (pair_at u old start))
    ahead None f = tt
    ahead (Some u) f = f.0

    by : (v : ℕ) (o : Option ℕ) → IfSome o (λ u. IsSome (pair_at u old start) × ((w : ℕ) → w < u → pair_at w old start ≡ None)) → (o ≡ None → (w : ℕ) → pair_at w old start ≡ None) → None ≡ cond (is_done o v) (carried exp t (pair_at v old start)) None
    by v None f g = ap (carried exp t) (sym (g refl v))
    by v (Some u) f g = one (nat_lt v u) refl
      where
        one : (b : Bool) → nat_lt v u ≡ b → None ≡ cond b (carried exp t (pair_at v old start)) None
        one true q = ap (carried exp t) (sym (f.1 v (lt v u q)))
        one false q = refl

-- all were carried over
pub all_carried : (exp t old new : ℕ) (start now : Rows) → IsCarried exp t old new start now None → (v n : ℕ) → pair_at v n now ≡ cond (new == n) (carried exp t (pair_at v old start)) (pair_at v n start)
all_carried exp t old new start now i v n = by (new == n) refl
  where
    eq : (a b : ℕ) → (a == b) ≡ true → a ≡ b
    eq a b q = grind (arith, nat_tests)

    by : (b : Bool) → (new == n) ≡ b → pair_at v n now ≡ cond b (carried exp t (pair_at v old start)) (pair_at v n start)
    by true p = ap (λ z. pair_at v z now) (sym (eq new n p)) ∙ i.moved v
    by false p = i.others v n p

-- where nothing is open, nothing is carried over
pub none_carried : (exp t old new : ℕ) (start : Rows) → ((v : ℕ) → pair_at v new start ≡ None) → ((v : ℕ) → pair_at v old start ≡ None) → (v n : ℕ) → pair_at v n start ≡ cond (new == n) (carried exp t (pair_at v old start)) (pair_at v n start)
none_carried exp t old new start none none' v n = by (new == n) refl
  where
    eq : (new == n) ≡ true → new ≡ n
    eq q = grind (arith, nat_tests)

    by : (b : Bool) → (new == n) ≡ b → pair_at v n start ≡ cond b (carried exp t (pair_at v old start)) (pair_at v n start)
    by true p = ap (λ z. pair_at v z start) (sym (eq p)) ∙ none v ∙ ap (carried exp t) (sym (none' v))
    by false p = refl

-- the old lease's are closed once all were carried over
pub old_closed : (exp t old new : ℕ) (start now after : Rows) → ((v : ℕ) → pair_at v new start ≡ None) → ((v n : ℕ) → pair_at v n now ≡ cond (new == n) (carried exp t (pair_at v old start)) (pair_at v n start)) → ((v n : ℕ) → pair_at v n after ≡ cond (old == n) None (pair_at v n now))
    → (v n : ℕ) → pair_at v n after ≡ cond (new == n) (carried exp t (pair_at v old start)) (cond (old == n) None (pair_at v n start))
old_closed exp t old new start now after none renewed look v n = look v n ∙ ap (λ z. cond (old == n) None z) (renewed v n) ∙ by (new == n) refl (old == n) refl
  where
    eq : (a b : ℕ) → (a == b) ≡ true → a ≡ b
    eq a b q = grind (arith, nat_tests)

    by : (b : Bool) → (new == n) ≡ b → (c : Bool) → (old == n) ≡ c → cond c None (cond b (carried exp t (pair_at v old start)) (pair_at v n start)) ≡ cond b (carried exp t (pair_at v old start)) (cond c None (pair_at v n start))
    by true p true q = ap (carried exp t) (sym (ap (λ z. pair_at v z start) (eq old n q ∙ sym (eq new n p)) ∙ none v))
    by true p false q = refl
    by false p true q = refl
    by false p false q = refl

-- what was carried over is closed again
pub carried_back : (exp t old new : ℕ) (start now after : Rows) (next : Option ℕ) → ((v : ℕ) → pair_at v new start ≡ None) → IsCarried exp t old new start now next → ((v n : ℕ) → pair_at v n after ≡ cond (new == n) None (pair_at v n now)) → (v n : ℕ) → pair_at v n after ≡ pair_at v n start
carried_back exp t old new start now after next none i look v n = look v n ∙ by (new == n) refl
  where
    eq : (new == n) ≡ true → new ≡ n
    eq q = grind (arith, nat_tests)

    by : (b : Bool) → (new == n) ≡ b → cond b None (pair_at v n now) ≡ pair_at v n start
    by true p = sym (sym (ap (λ z. pair_at v z start) (eq p)) ∙ none v)
    by false p = i.others v n p

-- the pairs of the new lease have its end
pub new_ends : (exp t old new u : ℕ) (start now : Rows) → IsCarried exp t old new start now (Some u) → (v : ℕ) → IfSome (pair_at v new now) (λ p. p.exp ≡ exp)
new_ends exp t old new u start now i v = subst (λ o. IfSome o (λ p. p.exp ≡ exp)) (sym (i.moved v)) (by (nat_lt v u) (pair_at v old start))
  where
    by : (b : Bool) (o : Option OpenPair) → IfSome (cond b (carried exp t o) None) (λ p. p.exp ≡ exp)
    by true None = tt
    by true (Some p) = refl
    by false o = tt

pub not_yet : (exp t old new u : ℕ) (start now : Rows) → IsCarried exp t old new start now (Some u) → pair_at u new now ≡ None
not_yet exp t old new u start now i = i.moved u ∙ ap (λ b. cond b (carried exp t (pair_at u old start)) None) (own u)
  where
    own : (u : ℕ) → nat_lt u u ≡ false
    own u = grind (arith, nat_tests)

pub head_first : (exp t old new : ℕ) (start rows : Rows) (x : NextTry) → rows ≡ start → IsStrictlySortedBy pair_order (keys_of rows) → ((v : ℕ) → pair_at v new start ≡ None) → head_try old rows ≡ Some x → IsCarried exp t old new start start (Some x.ver)
head_first exp t old new start rows x same s none e =
    let h = head_is old rows x (ascends rows s) e in
    nothing_carried exp t old new start (Some x.ver) none (sym (ap (λ z. is_some (pair_at x.ver old z)) same) ∙ ap is_some h.open_pair, λ w k. sym (ap (pair_at w old) same) ∙ h.lowest w k) (λ k. absurd (cc))

pub old_stays : (exp t old new u : ℕ) (start now after : Rows) → ((v : ℕ) → pair_at v new start ≡ None) → IsCarried exp t old new start now (Some u)
    → ((v n : ℕ) → pair_at v n after ≡ cond (is_here u new v n) (Some (fresh exp t)) (pair_at v n now)) → (w : ℕ) → pair_at w old after ≡ pair_at w old start
old_stays exp t old new u start now after none i look w =
    let apart = differ old new u start none i.following in
    look w old ∙ ap (λ b. cond (b && (u == w)) (Some (fresh exp t)) (pair_at w old now)) apart ∙ i.others w old apart
