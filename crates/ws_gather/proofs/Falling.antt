-- The serials of a legal history fall, seen from its newest event, so a serial tells one event of it.
use Rattle.std.proofs.Common.{◌≡◌, ℕ, ◌<◌, ◌≤◌, Bool, true, false, cond, ◌&&◌, List, [], ◌∷◌, length, refl, sym, subst, arith, inl, inr}
use Rattle.std.specs.Prelude.{filter, ◌==◌, Contains}
use Rattle.std.specs.List.{AllByRecursion}
use Rattle.std.proofs.lemmas.Bool.Decides.{nat_tests}
use Rattle.std.proofs.lemmas.Bool.{eqb-true, false≢true, ltb-true}
use Rattle.std.proofs.lemmas.List.Elements.{All-contains, All-from_recursion, Contains-append_cases}
use Rattle.ws_model.specs.declared.event.Event.{Event}
use Rattle.ws_model.specs.declared.event.What.{What}
use Rattle.ws_model.specs.declared.event.What.TheVariants.{Tally}
use Rattle.ws_model.specs.Legal.{Legal, accepts, accepts_what}
use Rattle.ws_model.specs.Moment.{last_serial}
use Rattle.ws_laws.proofs.ListLaws.{all_filter, all_weaker}
use Rattle.ws_gather.specs.Gathered.{with_serial}

abbrev pub IsFalling : List Event → Type 0
IsFalling [] = Unit {0}
IsFalling (e ∷ h) = AllByRecursion (λ (f : Event). f.serial < e.serial) h × IsFalling h

within : (h : List Event) → AllByRecursion (λ (f : Event). f.serial ≤ last_serial h) h
within [] = tt
within (e ∷ h) = (omega arith, all_weaker (λ (f : Event). f.serial ≤ last_serial h) (λ (f : Event). f.serial ≤ last_serial (e ∷ h)) (λ f k. omega arith) h (within h))

first_of : (a b c d x y : Bool) → (a && b && c && d && x && y) ≡ true → a ≡ true
first_of true b c d x y k = refl
first_of false b c d x y k = absurd (false≢true k)

above : (e f : Event) (h : List Event) (w : What) → accepts_what e (f ∷ h) w ≡ true → last_serial (f ∷ h) < e.serial
above e f h (Tally c) k = absurd (false≢true k)
above e f h w k = ltb-true _ _ (first_of _ _ _ _ _ _ k)

below : (e : Event) (h : List Event) → accepts h e ≡ true → AllByRecursion (λ (f : Event). f.serial < e.serial) h
below e [] k = tt
below e (f ∷ h) k =
    let new : last_serial (f ∷ h) < e.serial = above e f h e.what k in
    all_weaker (λ (g : Event). g.serial ≤ last_serial (f ∷ h)) (λ (g : Event). g.serial < e.serial) (λ g le. omega arith) (f ∷ h) (within (f ∷ h))

pub falls : (h : List Event) → Legal h → IsFalling h
falls [] l = tt
falls (e ∷ h) l = (below e h l.1, falls h l.0)

pub falls_on : (test : Event → Bool) (h : List Event) → IsFalling h → IsFalling (filter test h)
falls_on test [] f = tt
falls_on test (e ∷ h) f = one (test e) (falls_on test h f.1)
  where
    one : (b : Bool) → IsFalling (filter test h) → IsFalling (cond b (e ∷ filter test h) (filter test h))
    one true r = (all_filter (λ (g : Event). g.serial < e.serial) test h f.0, r)
    one false r = r

lower_other : (a b : ℕ) → a < b → (a == b) ≡ false
lower_other a b k = grind (arith, nat_tests)

none_at : (s : ℕ) (h : List Event) → AllByRecursion (λ (f : Event). f.serial < s) h → with_serial s h ≡ []
none_at s [] a = refl
none_at s (f ∷ h) a = rw (lower_other f.serial s a.0) (none_at s h a.1)

pub one_at : (s : ℕ) (h : List Event) → IsFalling h → length (with_serial s h) ≤ 1
one_at s [] f = omega arith
one_at s (e ∷ h) f = one (e.serial == s) refl (one_at s h f.1)
  where
    one : (b : Bool) → (e.serial == s) ≡ b → length (with_serial s h) ≤ 1 → length (cond b (e ∷ with_serial s h) (with_serial s h)) ≤ 1
    one true k r =
        let none : with_serial s h ≡ [] = none_at s h (subst (λ n. AllByRecursion (λ (g : Event). g.serial < n) h) (eqb-true e.serial s k) f.0) in
        rw none (omega arith)
    one false k r = r

-- an event of the history is the only one of its serial
pub only_one : (f : Event) (h : List Event) → IsFalling h → Contains h f → AllByRecursion (λ (e : Event). e.serial ≡ f.serial → e ≡ f) h
only_one f [] a c = tt
only_one f (e ∷ h) a c = elim (Contains-append_cases (e ∷ []) h f c) [
  | inl k ↦
      let same : f ≡ e = All-contains (λ g. g ≡ e) (e ∷ []) f (All-from_recursion (λ g. g ≡ e) (e ∷ []) (refl, tt)) k in
      subst (λ g. AllByRecursion (λ (x : Event). x.serial ≡ g.serial → x ≡ g) (e ∷ h)) (sym same)
      (λ _. refl, all_weaker (λ (g : Event). g.serial < e.serial) (λ (g : Event). g.serial ≡ e.serial → g ≡ e) (λ g l s. absurd (omega arith)) h a.0)
  | inr k ↦
      let less : f.serial < e.serial = All-contains (λ (g : Event). g.serial < e.serial) h f (All-from_recursion (λ (g : Event). g.serial < e.serial) h a.0) k in
      (λ s. absurd (omega arith), only_one f h a.1 k)
]
