-- Two lists that rise by serial, and have of each serial the same events, are equal.
use Rattle.std.proofs.Common.{◌≡◌, ℕ, suc, ◌<◌, ◌≤◌, Bool, true, false, cond, List, [], ◌∷◌, ◌++◌, refl, ap, sym, ◌∙◌, subst, arith}
use Rattle.std.specs.Prelude.{reverse, ◌==◌}
use Rattle.std.specs.List.{AllByRecursion}
use Rattle.std.specs.List.Sorted.{IsNonDecreasingBy}
use Rattle.std.proofs.lemmas.Bool.{eq-eqb}
use Rattle.std.proofs.lemmas.List.{reverse-append}
use Rattle.std.proofs.lemmas.List.Elements.{All-from_recursion, recursion_from_All}
use Rattle.std.proofs.lemmas.List.Sorted.{All-permutation, IsPermutation-reverse}
use Rattle.ws_model.specs.declared.event.Event.{Event}
use Rattle.ws_laws.proofs.ListLaws.{all_append, all_filter, all_weaker}
use Rattle.ws_gather.proofs.Falling.{IsFalling}
use Rattle.ws_gather.specs.Gathered.{with_serial}

abbrev pub IsRising : List Event → Type 0
IsRising [] = Unit {0}
IsRising (e ∷ es) = AllByRecursion (λ (f : Event). e.serial ≤ f.serial) es × IsRising es

pub rises : (es : List Event) → IsNonDecreasingBy (λ (e : Event). e.serial) es → IsRising es
rises [] r = tt
rises (e ∷ es) r = (
  recursion_from_All (λ (f : Event). e.serial ≤ f.serial) es (λ k d l. r 0 (suc k) d (omega arith) (omega arith)),
  rises es (λ i j d le l. r (suc i) (suc j) d (omega arith) (omega arith)),
)

rises_last : (es : List Event) (e : Event) → IsRising es → AllByRecursion (λ (f : Event). f.serial ≤ e.serial) es → IsRising (es ++ e ∷ [])
rises_last [] e r a = (tt, tt)
rises_last (f ∷ es) e r a = (all_append (λ (g : Event). f.serial ≤ g.serial) es (e ∷ []) r.0 (a.0, tt), rises_last es e r.1 a.1)

pub rises_turned : (h : List Event) → IsFalling h → IsRising (reverse h)
rises_turned [] f = tt
rises_turned (e ∷ h) f =
    let P : Event → Type 0 = λ (g : Event). g.serial ≤ e.serial in
    let all : AllByRecursion P h = all_weaker (λ (g : Event). g.serial < e.serial) P (λ g l. omega arith) h f.0 in
    subst IsRising (sym (reverse-append (e ∷ []) h))
    (rises_last (reverse h) e (rises_turned h f.1) (recursion_from_All P (reverse h) (All-permutation P h (reverse h) (IsPermutation-reverse h) (All-from_recursion P h all))))

-- ---- equal lists

at_itself : (e : Event) (es : List Event) → with_serial e.serial (e ∷ es) ≡ e ∷ with_serial e.serial es
at_itself e es = ap (λ b. cond b (e ∷ with_serial e.serial es) (with_serial e.serial es)) (eq-eqb e.serial e.serial refl)

lowest : (x y : Event) (xs ys : List Event) → IsRising (y ∷ ys) → with_serial x.serial (x ∷ xs) ≡ with_serial x.serial (y ∷ ys) → y.serial ≤ x.serial
lowest x y xs ys r k =
    let P : Event → Type 0 = λ (e : Event). y.serial ≤ e.serial in
    (subst (AllByRecursion P) (sym k ∙ at_itself x xs) (all_filter P (λ e. e.serial == x.serial) (y ∷ ys) (omega arith, r.0))).0

without : (b : Bool) (e : Event) (xs ys : List Event) → cond b (e ∷ xs) xs ≡ cond b (e ∷ ys) ys → xs ≡ ys
without true e xs ys k = cc
without false e xs ys k = k

first_same : (x y : Event) (xs ys : List Event) → x ∷ xs ≡ y ∷ ys → x ≡ y
first_same x y xs ys k = cc

pub same_order : (xs ys : List Event) → IsRising xs → IsRising ys → ((s : ℕ) → with_serial s xs ≡ with_serial s ys) → xs ≡ ys
same_order [] [] r q f = refl
same_order [] (y ∷ ys) r q f = let k : [] ≡ y ∷ with_serial y.serial ys = f y.serial ∙ at_itself y ys in absurd (grind arith)
same_order (x ∷ xs) [] r q f = let k : [] ≡ x ∷ with_serial x.serial xs = sym (f x.serial) ∙ at_itself x xs in absurd (grind arith)
same_order (x ∷ xs) (y ∷ ys) r q f = rw first (ap (λ es. y ∷ es) (same_order xs ys r.1 q.1 rest))
  where
    equal : x.serial ≡ y.serial
    equal =
        let a : y.serial ≤ x.serial = lowest x y xs ys q (f x.serial) in
        let b : x.serial ≤ y.serial = lowest y x ys xs r (sym (f y.serial)) in
        omega arith

    first : x ≡ y
    first = first_same x y _ _ (sym (at_itself x xs) ∙ f x.serial ∙ ap (λ n. with_serial n (y ∷ ys)) equal ∙ at_itself y ys)

    rest : (s : ℕ) → with_serial s xs ≡ with_serial s ys
    rest s = without (y.serial == s) y (with_serial s xs) (with_serial s ys) (subst (λ e. with_serial s (e ∷ xs) ≡ with_serial s (y ∷ ys)) first (f s))
