-- Changes to the pairs of a list, one after another.
use Rattle.std.proofs.Common.{◌≡◌, ℕ, Bool, true, false, not, cond, ◌&&◌, ◌||◌, List, [], ◌∷◌, refl, ap, sym, ◌∙◌, subst, arith}
use Rattle.std.specs.Prelude.{◌==◌, Option, Some, None, IfSome}
use Rattle.std.proofs.lemmas.Bool.{and_parts, eqb-true}
use Rattle.std.proofs.lemmas.Bool.Decides.{nat_tests}
use Rattle.ws_fate.specs.declared.totals.Standing.{Standing}
use Rattle.ws_fate.specs.declared.totals.Standing.TheVariants.{Open}
use Rattle.ws_fate.specs.Rows.{Rows as FateRows, is_here, standing_at}
use Rattle.ws_ledger.specs.Pairs.{AreApart, is_listed}

-- of the listed pairs all but those that are left are changed to x, and the others are as they were
pub record AreChanged (x : Option Standing) (pairs left : List (ℕ × ℕ)) (old now : FateRows) : Type 0 where
  pub look : (v n : ℕ) → standing_at v n now ≡ cond (is_listed v n pairs && not (is_listed v n left)) x (standing_at v n old)
  pub within : (v n : ℕ) → is_listed v n left ≡ true → is_listed v n pairs ≡ true
  pub apart : AreApart left

and_not : (b : Bool) → (b && not b) ≡ false
and_not true = refl
and_not false = refl

and_true : (b : Bool) → (b && true) ≡ b
and_true true = refl
and_true false = refl

pub changed_none : (x : Option Standing) (pairs : List (ℕ × ℕ)) (rows : FateRows) → AreApart pairs → AreChanged x pairs pairs rows rows
changed_none x pairs rows a =
    record {
      look = λ v n. sym (ap (λ b. cond b x (standing_at v n rows)) (and_not (is_listed v n pairs)));
      within = λ v n k. k;
      apart = a;
    }

pub changed_all : (x : Option Standing) (pairs : List (ℕ × ℕ)) (old now : FateRows) → AreChanged x pairs [] old now → (v n : ℕ) → standing_at v n now ≡ cond (is_listed v n pairs) x (standing_at v n old)
changed_all x pairs old now c v n = c.look v n ∙ ap (λ b. cond b x (standing_at v n old)) (and_true (is_listed v n pairs))

itself : (v n : ℕ) → ((v == v) && (n == n)) ≡ true
itself v n = grind (arith, nat_tests)

here_is : (v n w m : ℕ) → is_here v n w m ≡ ((v == w) && (n == m))
here_is v n w m = by (n == m) (v == w)
  where
    by : (a b : Bool) → (a && b) ≡ (b && a)
    by true true = refl
    by true false = refl
    by false true = refl
    by false false = refl

own_listed : (p : ℕ × ℕ) (left : List (ℕ × ℕ)) → is_listed p.0 p.1 (p ∷ left) ≡ true
own_listed p left = ap (λ b. b || is_listed p.0 p.1 left) (itself p.0 p.1)

or_right : (b c : Bool) → c ≡ true → (b || c) ≡ true
or_right true c k = refl
or_right false c k = k

-- the pair that is next is listed, and is as it was
pub next_listed : (x : Option Standing) (p : ℕ × ℕ) (pairs left : List (ℕ × ℕ)) (old now : FateRows) → AreChanged x pairs (p ∷ left) old now → is_listed p.0 p.1 pairs ≡ true
next_listed x p pairs left old now c = c.within p.0 p.1 (own_listed p left)

pub next_same : (x : Option Standing) (p : ℕ × ℕ) (pairs left : List (ℕ × ℕ)) (old now : FateRows) → AreChanged x pairs (p ∷ left) old now → standing_at p.0 p.1 now ≡ standing_at p.0 p.1 old
next_same x p pairs left old now c =
    c.look p.0 p.1
    ∙ (λ j. cond (next_listed x p pairs left old now c j && not (own_listed p left j)) x (standing_at p.0 p.1 old))

pub changed_next :
    (x : Option Standing) (p : ℕ × ℕ) (pairs left : List (ℕ × ℕ)) (old now new : FateRows) → AreChanged x pairs (p ∷ left) old now
    → ((v n : ℕ) → standing_at v n new ≡ cond (is_here p.0 p.1 v n) x (standing_at v n now)) → AreChanged x pairs left old new
changed_next x p pairs left old now new c f =
    record {
      look = λ v n. f v n ∙ ap (λ b. cond b x (standing_at v n now)) (here_is p.0 p.1 v n) ∙ by v n ((p.0 == v) && (p.1 == n)) refl (c.look v n);
      within = λ v n k. c.within v n (or_right ((p.0 == v) && (p.1 == n)) (is_listed v n left) k);
      apart = c.apart.1;
    }
  where
    by : (v n : ℕ) (b : Bool) → ((p.0 == v) && (p.1 == n)) ≡ b → standing_at v n now ≡ cond (is_listed v n pairs && not (((p.0 == v) && (p.1 == n)) || is_listed v n left)) x (standing_at v n old)
        → cond ((p.0 == v) && (p.1 == n)) x (standing_at v n now) ≡ cond (is_listed v n pairs && not (is_listed v n left)) x (standing_at v n old)
    by v n true k l =
        let q = and_parts (p.0 == v) (p.1 == n) k in
        let a = eqb-true p.0 v q.0 in
        let b = eqb-true p.1 n q.1 in
        ap (λ z. cond z x (standing_at v n now)) k
        ∙ sym (λ j. cond ((((λ i. is_listed (sym a i) (sym b i) pairs) ∙ next_listed x p pairs left old now c) j) && not (((λ i. is_listed (sym a i) (sym b i) left) ∙ c.apart.0) j)) x (standing_at v n old))
    by v n false k l =
        ap (λ z. cond z x (standing_at v n now)) k
        ∙ l
        ∙ ap (λ z. cond (is_listed v n pairs && not (z || is_listed v n left)) x (standing_at v n old)) k

-- the pair that is next is out already
pub changed_already :
    (p : ℕ × ℕ) (pairs left : List (ℕ × ℕ)) (old now : FateRows) → AreChanged None pairs (p ∷ left) old now → standing_at p.0 p.1 now ≡ None → AreChanged None pairs left old now
changed_already p pairs left old now c k =
    changed_next None p pairs left old now now c (λ v n. sym (ap (λ b. cond b None (standing_at v n now)) (here_is p.0 p.1 v n) ∙ by v n ((p.0 == v) && (p.1 == n)) refl))
  where
    by : (v n : ℕ) (b : Bool) → ((p.0 == v) && (p.1 == n)) ≡ b → cond ((p.0 == v) && (p.1 == n)) None (standing_at v n now) ≡ standing_at v n now
    by v n true m =
        let q = and_parts (p.0 == v) (p.1 == n) m in
        ap (λ z. cond z None (standing_at v n now)) m ∙ sym ((λ j. standing_at (sym (eqb-true p.0 v q.0) j) (sym (eqb-true p.1 n q.1) j) now) ∙ k)
    by v n false m = ap (λ z. cond z None (standing_at v n now)) m

-- pairs that were new and are listed are there or not; the others are as they were
pub others_same : (x : Option Standing) (pairs left : List (ℕ × ℕ)) (old now : FateRows) → AreChanged x pairs left old now → (v n : ℕ) → is_listed v n pairs ≡ false → standing_at v n now ≡ standing_at v n old
others_same x pairs left old now c v n k = c.look v n ∙ ap (λ b. cond (b && not (is_listed v n left)) x (standing_at v n old)) k

pub new_open : (pairs left : List (ℕ × ℕ)) (old now : FateRows) → AreChanged (Some Open) pairs left old now → ((v n : ℕ) → is_listed v n pairs ≡ true → standing_at v n old ≡ None) → (v n : ℕ) → is_listed v n pairs ≡ true → IfSome (standing_at v n now) (λ s. s ≡ Open)
new_open pairs left old now c f v n k =
    subst (λ o. IfSome o (λ s. s ≡ Open)) (sym (c.look v n ∙ ap (λ o. cond (is_listed v n pairs && not (is_listed v n left)) (Some Open) o) (f v n k))) (by (is_listed v n pairs && not (is_listed v n left)))
  where
    by : (b : Bool) → IfSome (cond b (Some Open) None) (λ s. s ≡ Open)
    by true = refl
    by false = tt

-- what is taken out again is as it was
pub undone :
    (pairs : List (ℕ × ℕ)) (old now : FateRows) → ((v n : ℕ) → is_listed v n pairs ≡ true → standing_at v n old ≡ None) → ((v n : ℕ) → is_listed v n pairs ≡ false → standing_at v n now ≡ standing_at v n old)
    → (v n : ℕ) → cond (is_listed v n pairs) None (standing_at v n now) ≡ standing_at v n old
undone pairs old now f g v n = by (is_listed v n pairs) refl
  where
    by : (b : Bool) → is_listed v n pairs ≡ b → cond (is_listed v n pairs) None (standing_at v n now) ≡ standing_at v n old
    by true k = ap (λ b. cond b None (standing_at v n now)) k ∙ sym (f v n k)
    by false k = ap (λ b. cond b None (standing_at v n now)) k ∙ g v n k
