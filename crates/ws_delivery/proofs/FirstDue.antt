-- The first next try that is ready is the push that is due first.
use Rattle.std.proofs.Common.{◌≡◌, ℕ, ◌<◌, ◌≤◌, Bool, true, false, not, cond, ◌&&◌, ◌||◌, List, [], ◌∷◌, refl, ap, sym, ◌∙◌, subst, arith}
use Rattle.std.specs.Prelude.{find, ◌==◌, nat_lt, nat_le, Option, Some, None, IfSome}
use Rattle.std.specs.List.{AllByRecursion}
use Rattle.std.proofs.lemmas.Bool.{false≢true}
use Rattle.std.proofs.lemmas.Bool.Decides.{nat_tests}
use Rattle.ws_model.specs.declared.work.Work.{Work}
use Rattle.ws_order.specs.declared.next_try.NextTry.{NextTry}
use Rattle.ws_order.specs.NextTries.{before, same, has, is_ready, is_out_push, IsRising}
use Rattle.ws_order.specs.NextTryOrder.{next_tries_order}
use Rattle.ws_delivery.specs.declared.open_pair.OpenPair.{OpenPair}
use Rattle.ws_delivery.specs.Table.{Rows, pair_at, unexpired}
use Rattle.ws_delivery.specs.Indexed.{IsIndexed, head_try, is_it, try_of}
use Rattle.ws_delivery.specs.NextDue.{IsDue, IsFirstDue, comes_before}
use Rattle.ws_delivery.proofs.RowsByKey.{ascends, head_is, is_head, IsHead}

-- ---- what is found in a list that rises

member_has : (P : NextTry → Type 0) (y : NextTry) (xs : List NextTry) → AllByRecursion P xs → has y xs ≡ true → P y
member_has P y [] a e = absurd (false≢true e)
member_has P y (x ∷ xs) a e = one (same y x) refl e (member_has P y xs a.1)
  where
    one : (b : Bool) → same y x ≡ b → (b || has y xs) ≡ true → (has y xs ≡ true → P y) → P y
    one true q e f = subst P (sym (next_tries_order.is y x q)) a.0
    one false q e f = f e

not_own : (x : NextTry) → before x x ≡ false
not_own x = by x.at x.ver x.lease x.exp
  where
    by : (a b c d : ℕ) → (nat_lt a a || ((a == a) && (nat_lt b b || ((b == b) && (nat_lt c c || ((c == c) && nat_lt d d)))))) ≡ false
    by a b c d = grind (arith, nat_tests)

own : (x : NextTry) → same x x ≡ true
own x = by x.at x.ver x.lease x.exp
  where
    by : (a b c d : ℕ) → ((a == a) && ((b == b) && ((c == c) && (d == d)))) ≡ true
    by a b c d = grind (arith, nat_tests)

pub record IsFound (p : NextTry → Bool) (xs : List NextTry) (x : NextTry) : Type 0 where
  pub there : has x xs ≡ true
  pub passes : p x ≡ true
  pub first : (y : NextTry) → has y xs ≡ true → p y ≡ true → before y x ≡ false

pub is_found : (p : NextTry → Bool) (xs : List NextTry) (x : NextTry) → IsRising xs → find p xs ≡ Some x → IsFound p xs x
is_found p [] x s e = absurd (cc)
is_found p (z ∷ zs) x s e = one (p z) refl e (is_found p zs x s.1)
  where
    or_true : (b : Bool) → (b || true) ≡ true
    or_true true = refl
    or_true false = refl

    here : p z ≡ true → z ≡ x → IsFound p (z ∷ zs) x
    here q k =
        subst (IsFound p (z ∷ zs)) k (record {
          there = ap (λ b. b || has z zs) (own z);
          passes = q;
          first = λ y h r. by y (same y z) refl h;
        })
      where
        by : (y : NextTry) (b : Bool) → same y z ≡ b → (b || has y zs) ≡ true → before y z ≡ false
        by y true q h = ap (λ w. before w z) (next_tries_order.is y z q) ∙ not_own z
        by y false q h = next_tries_order.not_back z y (member_has (λ w. before z w ≡ true) y zs s.0 h)

    one : (b : Bool) → p z ≡ b → cond b (Some z) (find p zs) ≡ Some x → (find p zs ≡ Some x → IsFound p zs x) → IsFound p (z ∷ zs) x
    one true q e f = let k : z ≡ x = cc in here q k
    one false q e f =
        let r = f e in
        record {
          there = ap (λ b. same x z || b) r.there ∙ or_true (same x z);
          passes = r.passes;
          first = λ y h k. by y (same y z) refl h k (r.first y);
        }
      where
        by : (y : NextTry) (b : Bool) → same y z ≡ b → (b || has y zs) ≡ true → p y ≡ true → (has y zs ≡ true → p y ≡ true → before y x ≡ false) → before y x ≡ false
        by y true k h g l = absurd (false≢true (sym q ∙ ap p (sym (next_tries_order.is y z k)) ∙ g))
        by y false k h g l = l h g

pub none_found : (p : NextTry → Bool) (xs : List NextTry) (y : NextTry) → find p xs ≡ None → has y xs ≡ true → p y ≡ false
none_found p [] y e h = absurd (false≢true h)
none_found p (z ∷ zs) y e h = one (p z) refl e (same y z) refl h (none_found p zs y)
  where
    one : (b : Bool) → p z ≡ b → cond b (Some z) (find p zs) ≡ None → (c : Bool) → same y z ≡ c → (c || has y zs) ≡ true → (find p zs ≡ None → has y zs ≡ true → p y ≡ false) → p y ≡ false
    one true q e c k h f = absurd (cc)
    one false q e true k h f = ap p (next_tries_order.is y z k) ∙ q
    one false q e false k h f = f e h

-- ---- due pushes and the first pairs of leases

-- what is owed is open, and its lease hasn't ended
pub record IsOpenAt (t : ℕ) (o : Option OpenPair) (p : OpenPair) : Type 0 where
  pub is : o ≡ Some p
  pub lives : nat_lt t p.exp ≡ true

pub open_at : (t : ℕ) (o : Option OpenPair) (p : OpenPair) → unexpired t o ≡ Some p → IsOpenAt t o p
open_at t None p e = absurd (cc)
open_at t (Some q) p e = one (nat_lt t q.exp) refl e
  where
    one : (b : Bool) → nat_lt t q.exp ≡ b → cond b (Some q) None ≡ Some p → IsOpenAt t (Some q) p
    one true k e = let s : q ≡ p = cc in record { is = ap (λ z. Some z) s; lives = ap (λ (z : OpenPair). nat_lt t z.exp) (sym s) ∙ k }
    one false k e = absurd (cc)

-- of one lease with one end, what isn't owed at a moment at which another pair is isn't open
closed_at : (t : ℕ) (p : OpenPair) (o : Option OpenPair) → nat_lt t p.exp ≡ true → IfSome o (λ q. p.exp ≡ q.exp) → unexpired t o ≡ None → o ≡ None
closed_at t p None l f e = refl
closed_at t p (Some q) l f e = absurd (some_none (sym (ap (λ b. cond b (Some q) None) (ap (nat_lt t) (sym f) ∙ l)) ∙ e))
  where
    some_none : Some q ≡ None → ⊥
    some_none z = cc

-- a due push is the first of its lease, and is ready
pub record IsReadyHead (t : ℕ) (out : List Work) (rows : Rows) (heads : List NextTry) (x : NextTry) : Type 0 where
  pub there : has x heads ≡ true
  pub ready : is_ready t out x ≡ true

all_true : (a b c : Bool) → a ≡ true → b ≡ true → c ≡ false → (a && (b && not c)) ≡ true
all_true true true false p q r = refl
all_true true true true p q r = absurd (false≢true (sym r))
all_true true false c p q r = absurd (false≢true q)
all_true false b c p q r = absurd (false≢true p)

le_test : (a b : ℕ) → a ≤ b → nat_le a b ≡ true
le_test a b p = grind (arith, nat_tests)

test_le : (a b : ℕ) → nat_le a b ≡ true → a ≤ b
test_le a b p = grind (arith, nat_tests)

pub ready_head : (t : ℕ) (out : List Work) (rows : Rows) (heads : List NextTry) (v n : ℕ) → IsIndexed rows heads → (d : IsDue t out rows v n) → IsReadyHead t out rows heads (try_of ((n, v), d.pair))
ready_head t out rows heads v n i d =
    let o = open_at t (pair_at v n rows) d.pair d.still_owed in
    let low : (w : ℕ) → w < v → pair_at w n rows ≡ None = λ w k. closed_at t d.pair (pair_at w n rows) o.lives (subst (λ z. IfSome z (λ p. IfSome (pair_at w n rows) (λ q. p.exp ≡ q.exp))) o.is (i.one_end n v w)) (d.lowest w k) in
    record {
      there = i.headed (try_of ((n, v), d.pair)) ∙ ap (is_it (try_of ((n, v), d.pair))) (is_head n v d.pair rows (ascends rows i.ordered) o.is low) ∙ own (try_of ((n, v), d.pair));
      ready = all_true (nat_le d.pair.next t) (nat_lt t d.pair.exp) (is_out_push out v n) (le_test d.pair.next t d.has_come) o.lives d.free;
    }

it_is : (x : NextTry) (o : Option NextTry) → is_it x o ≡ true → o ≡ Some x
it_is x None e = absurd (false≢true e)
it_is x (Some y) e = ap (λ z. Some z) (sym (next_tries_order.is x y e))

pub record ReadyParts (t : ℕ) (out : List Work) (x : NextTry) : Type 0 where
  pub come : nat_le x.at t ≡ true
  pub lives : nat_lt t x.exp ≡ true
  pub free : is_out_push out x.ver x.lease ≡ false

ready_parts : (t : ℕ) (out : List Work) (x : NextTry) → is_ready t out x ≡ true → ReadyParts t out x
ready_parts t out x e = by (nat_le x.at t) refl (nat_lt t x.exp) refl (is_out_push out x.ver x.lease) refl e
  where
    by : (a : Bool) → nat_le x.at t ≡ a → (b : Bool) → nat_lt t x.exp ≡ b → (c : Bool) → is_out_push out x.ver x.lease ≡ c → (a && (b && not c)) ≡ true → ReadyParts t out x
    by true p true q false r e = record { come = p; lives = q; free = r }
    by true p true q true r e = absurd (false≢true e)
    by true p false q c r e = absurd (false≢true e)
    by false p b q c r e = absurd (false≢true e)

-- the first pair of a lease that is ready is due
head_due : (t : ℕ) (out : List Work) (rows : Rows) (x : NextTry) → IsHead x.lease rows x → ReadyParts t out x → IsDue t out rows x.ver x.lease
head_due t out rows x h r =
    let exp : x.exp ≡ h.pair.exp = ap (λ (z : NextTry). z.exp) h.is in
    let at : x.at ≡ h.pair.next = ap (λ (z : NextTry). z.at) h.is in
    record {
      pair = h.pair;
      still_owed = ap (unexpired t) h.open_pair ∙ ap (λ b. cond b (Some h.pair) None) (ap (nat_lt t) (sym exp) ∙ r.lives);
      has_come = subst (λ z. z ≤ t) at (test_le x.at t r.come);
      lowest = λ w k. ap (unexpired t) (h.lowest w k);
      free = r.free;
    }

by_less : (a b c d e f g h : ℕ) → (nat_lt a e || ((a == e) && (nat_lt b f || ((b == f) && (nat_lt c g || ((c == g) && nat_lt d h)))))) ≡ false → (nat_lt a e || ((a == e) && (nat_lt b f || ((b == f) && nat_lt c g)))) ≡ false
by_less a b c d e f g h k = outer (nat_lt a e) (a == e) (nat_lt b f) (b == f) (nat_lt c g) ((c == g) && nat_lt d h) k
  where
    outer : (p q r s u w : Bool) → (p || (q && (r || (s && (u || w))))) ≡ false → (p || (q && (r || (s && u)))) ≡ false
    outer true q r s u w k = k
    outer false false r s u w k = refl
    outer false true true s u w k = k
    outer false true false false u w k = refl
    outer false true false true true w k = k
    outer false true false true false w k = refl

pub first_due : (t : ℕ) (out : List Work) (rows : Rows) (heads : List NextTry) (x : NextTry) → IsIndexed rows heads → IsRising heads → find (is_ready t out) heads ≡ Some x → IsFirstDue t out rows x.ver x.lease
unfolding head_due
first_due t out rows heads x i s e =
    let f = is_found (is_ready t out) heads x s e in
    let h = head_is x.lease rows x (ascends rows i.ordered) (it_is x (head_try x.lease rows) (sym (i.headed x) ∙ f.there)) in
    let d = head_due t out rows x h (ready_parts t out x f.passes) in
    record {
      due = d;
      first = λ w m other. let r = ready_head t out rows heads w m i other in subst (λ z. comes_before other.pair.next w m z x.ver x.lease ≡ false) (ap (λ (z : NextTry). z.at) h.is) (by_less other.pair.next w m other.pair.exp x.at x.ver x.lease x.exp (f.first (try_of ((m, w), other.pair)) r.there r.ready));
    }

pub none_due : (t : ℕ) (out : List Work) (rows : Rows) (heads : List NextTry) → IsIndexed rows heads → find (is_ready t out) heads ≡ None → (v n : ℕ) → IsDue t out rows v n → ⊥
none_due t out rows heads i e v n d =
    let r = ready_head t out rows heads v n i d in
    false≢true (sym (none_found (is_ready t out) heads (try_of ((n, v), d.pair)) e r.there) ∙ r.ready)
