-- Any number of compactions, with events between them (own).
use Rattle.std.specs.Prelude.{◌≡◌, ℕ, ◌≤◌, ◌<◌, true, List, ◌∷◌}
use Rattle.ws_model.specs.declared.event.Event.{Event}
use Rattle.ws_model.specs.Keep.{keep}
use Rattle.ws_model.specs.Legal.{Legal, accepts, time_limit}
use Rattle.ws_model.specs.Moment.{time}
use Rattle.ws_model.specs.View.{view}
use Rattle.ws_laws.specs.Steps.{IsNewest}
use Rattle.ws_compaction.specs.Compaction.{with_time}

-- What is left of a history after compactions, and the last moment that it has seen: both begin as one
-- legal history; an event that is new to what is left, and may follow it, comes after both; a compaction
-- takes away from what is left alone.
pub data IsShortened : List Event → List Event → ℕ → Type 0 where
  Begins : (h : List Event) (m : ℕ) → Legal h → time h ≤ m → IsShortened h h m
  Happens : (e : Event) (whole left : List Event) (m : ℕ) → m ≤ e.t → IsNewest e left → accepts left e ≡ true → IsShortened whole left m → IsShortened (e ∷ whole) (e ∷ left) e.t
  IsCompacted : (t : ℕ) (whole left : List Event) (m : ℕ) → m ≤ t → t < time_limit → IsShortened whole left m → IsShortened whole (keep left t) t

-- Both are legal, of no later time than m, and have from m on the same view, but for the time of the
-- history.
pub record IsAlike (whole left : List Event) (m : ℕ) : Type 0 where
  pub whole_legal : Legal whole
  pub left_legal : Legal left
  pub whole_early : time whole ≤ m
  pub left_early : time left ≤ m
  pub same_view : (u : ℕ) → m ≤ u → view left u ≡ with_time (time left) (view whole u)

-- After any number of compactions, what is left goes on as the whole history does, that none has touched.
abbrev pub AnyCompactions : Type 0
AnyCompactions = (whole left : List Event) (m : ℕ) → IsShortened whole left m → IsAlike whole left m
