-- What is held, as answers to requests go by it.
use Rattle.std.proofs.Common.{◌≡◌, ◌≤◌, ◌+◌, ℕ, Bool, true, false, cond, ◌||◌, List, [], ◌∷◌, refl, ap, sym, ◌∙◌, length, arith, Option, Some, None}
use Rattle.std.specs.Prelude.{◌==◌, filter, is_some}
use Rattle.std.specs.List.{list_any, sum_by}
use Rattle.std.specs.Map.{values_of}
use Rattle.std.specs.Iterator.{YieldsFirst}
use Rattle.std.proofs.lemmas.Bool.{false≢true}
use Rattle.std.proofs.lemmas.List.Sums.{sum_by-cons}
use Rattle.ws_model.specs.Leases.{is_on}
use Rattle.std.proofs.lemmas.Bool.Decides.{nat_tests}
use Rattle.ws_model.specs.declared.lease.Lease.{Lease}
use Rattle.ws_intent.specs.declared.rows.Waiting.{Waiting}
use Rattle.ws_intent.specs.Rows.{weight}
use Rattle.ws_lease.specs.Stands.{AreNumbersOf, is_numbered}

abbrev is_cons : {X : Type 0} → List X → Bool
is_cons [] = false
is_cons (x ∷ xs) = true

own_number : (n : ℕ) → (n == n) ≡ true
own_number n = grind (arith, nat_tests)

-- some numbers are there exactly where some leases are
numbers_there : (ns : List ℕ) (ls : List Lease) → ((n : ℕ) → list_any (λ m. m == n) ns ≡ list_any (is_numbered n) ls) → is_cons ns ≡ is_cons ls
numbers_there [] [] same = refl
numbers_there [] (l ∷ ls) same = absurd (false≢true (same l.intent.n ∙ ap (λ b. b || list_any (is_numbered l.intent.n) ls) (own_number l.intent.n)))
numbers_there (n ∷ ns) [] same = absurd (false≢true (sym (same n) ∙ ap (λ b. b || list_any (λ m. m == n) ns) (own_number n)))
numbers_there (n ∷ ns) (l ∷ ls) same = refl

any_kept : (p : Lease → Bool) (ls : List Lease) → is_cons (filter p ls) ≡ list_any p ls
any_kept p [] = refl
any_kept p (l ∷ ls) = one (p l) (any_kept p ls)
  where
    one : (b : Bool) → is_cons (filter p ls) ≡ list_any p ls → is_cons (cond b (l ∷ filter p ls) (filter p ls)) ≡ (b || list_any p ls)
    one true r = refl
    one false r = r

first_there : (ns ms : List ℕ) (o : Option ℕ) → YieldsFirst (λ s. s) ns o ms → is_some o ≡ is_cons ns
first_there ns ms None y = ap is_cons (sym y.0)
first_there ns ms (Some n) y = ap is_cons (sym y)

pub some_lease : (p : Lease → Bool) (ns ms : List ℕ) (o : Option ℕ) (ls : List Lease) → YieldsFirst (λ s. s) ns o ms → AreNumbersOf ns (filter p ls) → is_some o ≡ list_any p ls
some_lease p ns ms o ls y numbers = first_there ns ms o y ∙ numbers_there ns (filter p ls) numbers.same ∙ any_kept p ls

-- subscriptions are among the pending intents
pub subscriptions_le : (rows : List (ℕ × Waiting)) → sum_by weight (values_of rows) ≤ length rows
subscriptions_le [] = omega arith
subscriptions_le (r ∷ rows) = one (is_on r.1.intent.mode) (sum_by-cons weight r.1 (values_of rows)) (subscriptions_le rows)
  where
    one : (b : Bool) → sum_by weight (values_of (r ∷ rows)) ≡ cond b 1 0 + sum_by weight (values_of rows) → sum_by weight (values_of rows) ≤ length rows → sum_by weight (values_of (r ∷ rows)) ≤ length (r ∷ rows)
    one true e a = omega arith
    one false e a = omega arith
