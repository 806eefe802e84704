-- The events that are made from rooms.
use Rattle.std.proofs.Common.{ℕ, Bool, cond, ◌&&◌, List, [], ◌∷◌, ◌++◌}
use Rattle.std.specs.Prelude.{map}
use Rattle.ws_model.specs.declared.event.Event.{Event}
use Rattle.ws_model.specs.Keep.{member}
use Rattle.ws_tries.specs.declared.room.Try.{Try}
use Rattle.ws_tries.specs.Rows.{Rows}
use Rattle.ws_tries.specs.Stands.{event_of}
use Rattle.ws_kept.specs.Rows.{Rows as Numbers}

-- the version and the lease are kept
abbrev pub has_both : Numbers → ℕ → ℕ → Bool
has_both kept v n = member v kept.versions && member n kept.leases

-- the events of a room
abbrev pub events_of : (ℕ × ℕ) × List Try → List Event
events_of r = map (event_of r.0.0 r.0.1) r.1

-- the events of the rooms of kept pairs
abbrev pub pushes_of : (ℕ → ℕ → Bool) → Rows → List Event
pushes_of kept [] = []
pushes_of kept (r ∷ rows) = cond (kept r.0.0 r.0.1) (events_of r) [] ++ pushes_of kept rows
