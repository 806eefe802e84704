-- Tests over lists, sets of numbers, and the log of a history.
use Rattle.std.proofs.Common.{◌≡◌, ℕ, ◌+◌, ◌≤◌, ◌<◌, Bool, true, false, not, ◌&&◌, ◌||◌, List, [], ◌∷◌, ◌++◌, refl, ap, sym, ◌∙◌, subst, arith, drop, length, get_or}
use Rattle.std.specs.Prelude.{filter, reverse, ◌==◌}
use Rattle.std.specs.List.{AllByRecursion, list_any}
use Rattle.std.specs.BTreeMap.{is_at}
use Rattle.std.specs.BTreeSet.{BTreeSet, contains}
use Rattle.std.specs.Ordering.{nat_cmp}
use Rattle.std.proofs.Math.Bool.{or-false, or_comm}
use Rattle.std.proofs.lemmas.Bool.{false≢true, or_left, or_right}
use Rattle.std.proofs.lemmas.Bool.Decides.{nat_tests}
use Rattle.std.proofs.lemmas.List.{at_drop_all, drop_more, reverse-append}
use Rattle.std.proofs.lemmas.List.Folds.{list_any-append}
use Rattle.ws_model.specs.declared.event.Event.{Event}
use Rattle.ws_model.specs.declared.event.What.{What}
use Rattle.ws_model.specs.History.{has}
use Rattle.ws_model.specs.Keep.{member}
use Rattle.ws_laws.proofs.Follow.{any_map}
use Rattle.ws_laws.proofs.ListLaws.{all_append, all_from, all_weaker, any_then}
use Rattle.ws_lease.proofs.SortedEntries.{any_filter}
use Rattle.ws_tries.specs.Stands.{is_any_push}
use Rattle.ws_kept.specs.Stands.{light, light_event, log_of, other_events}

pub both_ways : (a b : Bool) → (a ≡ true → b ≡ true) → (b ≡ true → a ≡ true) → a ≡ b
both_ways true b f g = sym (f refl)
both_ways false true f g = g refl
both_ways false false f g = refl

-- ---- tests over lists

-- each test that an element of a list passes finds one
pub each_any : {X : Type 0} (xs : List X) → AllByRecursion (λ x. (q : X → Bool) → q x ≡ true → list_any q xs ≡ true) xs
each_any [] = tt
each_any {X} (x ∷ xs) = ((λ q k. or_left _ _ k), all_weaker (λ y. (q : X → Bool) → q y ≡ true → list_any q xs ≡ true) (λ y. (q : X → Bool) → q y ≡ true → list_any q (x ∷ xs) ≡ true) (λ y f q k. or_right (q x) _ (f q k)) xs (each_any xs))

-- what a test finds
pub any_one : {X : Type 0} (q : X → Bool) (G : Type 0) → ((x : X) → q x ≡ true → G) → (xs : List X) → list_any q xs ≡ true → G
any_one {X} q G f xs k = any_then (λ (x : X). Unit {0}) q G (λ x _ a. f x a) xs (all_from (λ (x : X). Unit {0}) (λ x. tt) xs) k

pub any_same : {X : Type 0} (p q : X → Bool) → ((x : X) → p x ≡ q x) → (xs : List X) → list_any p xs ≡ list_any q xs
any_same p q f [] = refl
any_same p q f (x ∷ xs) = (λ i. f x i || any_same p q f xs i)

pub any_reverse : {X : Type 0} (q : X → Bool) (xs : List X) → list_any q (reverse xs) ≡ list_any q xs
any_reverse q [] = refl
any_reverse q (x ∷ xs) =
    ap (list_any q) (reverse-append (x ∷ []) xs)
    ∙ list_any-append q (reverse xs) (x ∷ [])
    ∙ (λ i. any_reverse q xs i || or-false (q x) i)
    ∙ or_comm (list_any q xs) (q x)

pub all_reverse : {X : Type 0} (P : X → Type 0) (xs : List X) → AllByRecursion P xs → AllByRecursion P (reverse xs)
all_reverse P [] a = tt
all_reverse P (x ∷ xs) a = subst (AllByRecursion P) (sym (reverse-append (x ∷ []) xs)) (all_append P (reverse xs) (x ∷ []) (all_reverse P xs a.1) (a.0, tt))

-- ---- a set with one more number

-- what is left to come is the rest, once the first was put in
pub one_done : (new old one rest all : Bool) → new ≡ (old || one) → (old || (one || rest)) ≡ all → (new || rest) ≡ all
one_done new old one rest all a b = by old one rest all (ap (λ x. x || rest) a) b
  where
    by : (old one rest all : Bool) → (new || rest) ≡ ((old || one) || rest) → (old || (one || rest)) ≡ all → (new || rest) ≡ all
    by true one rest all a b = a ∙ b
    by false one rest all a b = a ∙ b

pub all_done : (b c : Bool) → (b || false) ≡ c → b ≡ c
all_done true c k = k
all_done false c k = k

-- over two lists
pub in_two : {X : Type 0} (q : X → Bool) (b : Bool) (xs ys : List X) → ((b || list_any q xs) || list_any q ys) ≡ (b || list_any q (xs ++ ys))
in_two q true xs ys = refl
in_two q false xs ys = sym (list_any-append q xs ys)

-- over a slice
pub next_done : {X : Type 0} (q : X → Bool) (xs : List X) (i : ℕ) (x : X) (new old all : Bool) → i < length xs → x ≡ get_or xs i x → new ≡ (old || q x) → (old || list_any q (drop i xs)) ≡ all → (new || list_any q (drop (i + 1) xs)) ≡ all
next_done q xs i x new old all lt is a b =
    one_done new old (q x) (list_any q (drop (i + 1) xs)) all a
    (sym (ap (λ ys. old || list_any q ys) (drop_more xs i x lt ∙ ap (λ y. y ∷ drop (i + 1) xs) (sym is))) ∙ b)

pub end_done : {X : Type 0} (q : X → Bool) (xs : List X) (i : ℕ) (old all : Bool) → length xs ≤ i → (old || list_any q (drop i xs)) ≡ all → old ≡ all
end_done q xs i old all le b = all_done old all (sym (at_drop_all (λ ys. old || list_any q ys) xs i le) ∙ b)

-- ---- choices

pub and_one : (b x : Bool) → true ≡ x → b ≡ (b && x)
and_one true x k = k
and_one false x k = refl

pub and_none : (b x : Bool) → false ≡ x → false ≡ (b && x)
and_none true x k = k
and_none false x k = refl

pub never_and : (b x : Bool) → false ≡ b → false ≡ (b && x)
never_and true x k = absurd (false≢true k)
never_and false x k = refl

at_number : (n m : ℕ) → is_at (nat_cmp n) m ≡ (m == n)
at_number n m = grind (arith, nat_tests)

pub contains_member : (s : BTreeSet ℕ) (n : ℕ) → contains nat_cmp s n ≡ member n s.keys
contains_member s n = any_same (is_at (nat_cmp n)) (λ m. m == n) (at_number n) s.keys

-- ---- the log

-- a test of what happened that pushes don't pass, and that goes by what the log has of a version
pub any_log : (q : What → Bool) → ((w : What) → q (light w) ≡ q w) → ((w : What) → is_any_push w ≡ true → q w ≡ false) → (h : List Event) → list_any (λ e. q e.what) (log_of h) ≡ has q h
any_log q as_light no_push h =
    any_map (λ e. q e.what) light_event (other_events h)
    ∙ any_same (λ e. q (light e.what)) (λ e. q e.what) (λ e. as_light e.what) (other_events h)
    ∙ any_reverse (λ e. q e.what) (filter (λ e. not (is_any_push e.what)) h)
    ∙ any_filter (λ e. q e.what) (λ e. not (is_any_push e.what)) h
    ∙ any_same (λ e. not (is_any_push e.what) && q e.what) (λ e. q e.what) (λ e. one e.what (is_any_push e.what) refl) h
  where
    one : (w : What) (b : Bool) → is_any_push w ≡ b → (not b && q w) ≡ q w
    one w true k = sym (no_push w k)
    one w false k = refl
