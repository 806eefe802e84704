-- That what a request makes can be applied together (own).
use Rattle.std.specs.Prelude.{◌≡◌, ℕ, suc, ◌≤◌, ◌<◌, List, [], ◌∷◌, Some}
use Rattle.ws_model.specs.declared.event.Event.{Event}
use Rattle.ws_model.specs.declared.event.What.{What}
use Rattle.ws_model.specs.declared.settings.Policy.{Policy}
use Rattle.ws_model.specs.Answer.{Events}
use Rattle.ws_model.specs.Legal.{Legal, number_limit, time_limit}
use Rattle.ws_model.specs.Moment.{serial, time}
use Rattle.ws_model.specs.Revocation.{revocation}
use Rattle.ws_form.specs.Answers.{IsSound}
use Rattle.ws_form.specs.declared.ask.Ask.{Ask}
use Rattle.ws_core_tables.specs.Committing.{GoTogether, committed}
use Rattle.ws_port.specs.Requests.{answer}

-- they go together, and may happen at t after the history, one after the other
pub record MayCommit (h : List Event) (t : ℕ) (whats : List What) : Type 0 where
  pub together : GoTogether whats
  pub legal : Legal (committed t whats h)

-- what an answer to a sound ask makes of a legal history
abbrev pub AnswersCommit : Type 0
AnswersCommit =
    (h : List Event) (t : ℕ) (ask : Ask) (policy : Policy) (whats : List What) → Legal h → time h ≤ t → t < time_limit → IsSound ask
    → answer h t ask policy ≡ Events whats → MayCommit h t whats

-- what a revocation makes of it, where a serial is left
abbrev pub RevocationsCommit : Type 0
RevocationsCommit =
    (h : List Event) (t : ℕ) (topic callback : List ℕ) (what : What) → Legal h → time h ≤ t → t < time_limit → suc (serial h) < number_limit
    → revocation h t topic callback ≡ Some what → MayCommit h t (what ∷ [])
