-- Events of a history that were gathered in any order (own).
use Rattle.std.specs.Prelude.{◌≡◌, ℕ, ◌≤◌, Bool, true, false, ◌&&◌, ◌||◌, List, ◌++◌, length, filter, ◌==◌, Contains}
use Rattle.std.specs.List.{AllByRecursion, list_any}
use Rattle.std.specs.List.Sorted.{IsPermutation}
use Rattle.ws_model.specs.declared.event.Event.{Event}
use Rattle.ws_model.specs.Legal.{Legal}

-- the events of this serial
abbrev pub with_serial : ℕ → List Event → List Event
with_serial s events = filter (λ e. e.serial == s) events

-- one of the events has this serial
abbrev pub has_serial : ℕ → List Event → Bool
has_serial s events = list_any (λ e. e.serial == s) events

-- The events are, in any order, those of the history that pass the test, each once: each of them is one,
-- each of those is there, which its serial tells, and no two have one serial.
pub record AreGathered (h : List Event) (test : Event → Bool) (events : List Event) : Type 0 where
  pub passing : AllByRecursion (λ e. (test e ≡ true) × Contains h e) events
  pub whole : AllByRecursion (λ e. test e ≡ true → has_serial e.serial events ≡ true) h
  pub once : (s : ℕ) → length (with_serial s events) ≤ 1

-- Those that pass the test, in another order, are gathered.
abbrev pub Exchanges : Type 0
Exchanges = (h : List Event) (test : Event → Bool) (events : List Event) → Legal h → IsPermutation events (filter test h) → AreGathered h test events

-- What was gathered for two tests, which no event of the history passes both, is together gathered for
-- either.
abbrev pub AddsUp : Type 0
AddsUp =
    (h : List Event) (p q : Event → Bool) (xs ys : List Event) → Legal h
    → AllByRecursion (λ e. (p e && q e) ≡ false) h
    → AreGathered h p xs → AreGathered h q ys → AreGathered h (λ e. p e || q e) (xs ++ ys)
