-- Looking back over a history (own). A history is a list of events, the newest first, so that
-- `e ∷ h` is the history h followed by the event e.
use Rattle.std.specs.Prelude.{ℕ, suc, Bool, cond, List, [], ◌∷◌}
use Rattle.std.specs.List.{list_any}
use Rattle.ws_model.specs.declared.event.Event.{Event}
use Rattle.ws_model.specs.declared.event.What.{What}

-- whether such an event happened
abbrev pub has : (What → Bool) → List Event → Bool
has test h = list_any (λ e. test e.what) h

-- how many such events happened
abbrev pub times : (What → Bool) → List Event → ℕ
times test [] = 0
times test (e ∷ h) = cond (test e.what) (suc (times test h)) (times test h)

-- the time of the newest such event, or 0
abbrev pub newest_time : (What → Bool) → List Event → ℕ
newest_time test [] = 0
newest_time test (e ∷ h) = cond (test e.what) e.t (newest_time test h)

-- the events after the newest such event
abbrev pub since : (What → Bool) → List Event → List Event
since test [] = []
since test (e ∷ h) = cond (test e.what) [] (e ∷ since test h)
