-- Which pairs went over to a new lease (own).
use Rattle.std.specs.Prelude.{◌≡◌, ℕ, ◌≤◌, true, List, ◌∷◌, ◌++◌, ◌==◌}
use Rattle.std.specs.List.{AllByRecursion}
use Rattle.ws_model.specs.declared.event.Event.{Event}
use Rattle.ws_model.specs.declared.fate.Fate.TheVariants.{Ended}
use Rattle.ws_model.specs.declared.fate.Cause.TheVariants.{Replaced}
use Rattle.ws_model.specs.Fate.{Pair, fate}
use Rattle.ws_model.specs.Legal.{Legal}
use Rattle.ws_model.specs.Moment.{last_time}
use Rattle.ws_model.specs.Pairs.{pairs}
use Rattle.ws_compaction.specs.Least.{takes_over}

-- an event of the history made the lease `successor`, to which the pair went over
pub record WentOver (h : List Event) (p : Pair) : Type 0 where
  pub later : List Event
  pub event : Event
  pub before : List Event
  pub successor : ℕ
  pub split : h ≡ later ++ event ∷ before
  pub taken : takes_over (λ v. v == p.version.ver) event before successor p.lease.intent.n ≡ true

-- a pair that ended because its lease was replaced went over
abbrev pub ReplacedIsTaken : Type 0
ReplacedIsTaken = (h : List Event) (t : ℕ) → Legal h → last_time h ≤ t → AllByRecursion (λ p. fate h p t ≡ Ended Replaced → WentOver h p) (pairs h)

-- a pair that went over ended because its lease was replaced
abbrev pub TakenIsReplaced : Type 0
TakenIsReplaced = (h : List Event) (t : ℕ) → Legal h → last_time h ≤ t → AllByRecursion (λ p. WentOver h p → fate h p t ≡ Ended Replaced) (pairs h)
