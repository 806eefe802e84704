-- Changes at listed pairs, one after another.
use Rattle.std.proofs.Common.{◌≡◌, ℕ, Bool, true, false, cond, ◌&&◌, ◌||◌, List, [], ◌∷◌, refl, ap, sym, ◌∙◌, drop, suc, zero}
use Rattle.std.specs.Prelude.{◌==◌, Option, None}
use Rattle.std.specs.List.Sorted.{IsStrictlySortedBy}
use Rattle.std.specs.Map.{keys_of}
use Rattle.std.proofs.lemmas.Bool.{or_parts}
use Rattle.ws_fate.proofs.SameRows.{ascends, same_pairs}
use Rattle.ws_tries.specs.declared.room.Try.{Try}
use Rattle.ws_tries.specs.Rows.{Rows, is_here, is_listed, pair_order, tries_at}

-- what is changed to x at the pairs that are left of the listed ones is changed at all of them then
abbrev pub AreLeft : Option (List Try) → List (ℕ × ℕ) → List (ℕ × ℕ) → Rows → Rows → Type 0
AreLeft x pairs left old now = (v n : ℕ) → cond (is_listed v n left) x (tries_at v n now) ≡ cond (is_listed v n pairs) x (tries_at v n old)

pub one_done : (x : Option (List Try)) (p : ℕ × ℕ) (pairs left : List (ℕ × ℕ)) (old now next : Rows)
    → ((v n : ℕ) → tries_at v n next ≡ cond (is_here p.0 p.1 v n) x (tries_at v n now)) → AreLeft x pairs (p ∷ left) old now → AreLeft x pairs left old next
one_done x p pairs left old now next change before v n =
    ap (cond (is_listed v n left) x) (change v n) ∙ by (p.0 == v) (p.1 == n) (is_listed v n left) ∙ before v n
  where
    by : (a b c : Bool) → cond c x (cond (a && b) x (tries_at v n now)) ≡ cond (a && b || c) x (tries_at v n now)
    by true true true = refl
    by true true false = refl
    by true false true = refl
    by true false false = refl
    by false true true = refl
    by false true false = refl
    by false false true = refl
    by false false false = refl

none_left : (v n k : ℕ) (pairs : List (ℕ × ℕ)) → is_listed v n pairs ≡ false → is_listed v n (drop k pairs) ≡ false
none_left v n zero pairs e = e
none_left v n (suc k) [] e = refl
none_left v n (suc k) (p ∷ pairs) e = none_left v n k pairs (or_parts ((p.0 == v) && (p.1 == n)) (is_listed v n pairs) e).1

-- the other pairs are as they were
pub others_same : (x : Option (List Try)) (k : ℕ) (pairs : List (ℕ × ℕ)) (old now : Rows) → AreLeft x pairs (drop k pairs) old now → (v n : ℕ) → is_listed v n pairs ≡ false → tries_at v n now ≡ tries_at v n old
others_same x k pairs old now left v n e =
    ap (λ b. cond b x (tries_at v n now)) (sym (none_left v n k pairs e)) ∙ left v n ∙ ap (λ b. cond b x (tries_at v n old)) e

-- where the listed pairs had nothing and the others are as they were, taking the listed ones out undoes all
pub undone : (pairs : List (ℕ × ℕ)) (old now : Rows)
    → ((v n : ℕ) → is_listed v n pairs ≡ true → tries_at v n old ≡ None) → ((v n : ℕ) → is_listed v n pairs ≡ false → tries_at v n now ≡ tries_at v n old)
    → (v n : ℕ) → cond (is_listed v n pairs) None (tries_at v n now) ≡ tries_at v n old
undone pairs old now new others v n = by (is_listed v n pairs) refl
  where
    by : (b : Bool) → is_listed v n pairs ≡ b → cond b None (tries_at v n now) ≡ tries_at v n old
    by true e = sym (new v n e)
    by false e = others v n e

-- tables are the same where they say the same of each pair
pub same_map : (old new : Rows) → IsStrictlySortedBy pair_order (keys_of old) → IsStrictlySortedBy pair_order (keys_of new) → ((v n : ℕ) → tries_at v n new ≡ tries_at v n old) → new ≡ old
same_map old new s t look = same_pairs new old (ascends new t) (ascends old s) (λ n v. look v n)
