-- Which pushes a compaction keeps (own).
use Rattle.std.specs.Prelude.{ℕ, Bool, ◌&&◌, List}
use Rattle.ws_model.specs.declared.event.Event.{Event}
use Rattle.ws_model.specs.Keep.{keeps}
use Rattle.ws_tries.specs.Stands.{is_any_push}

-- the event is a push that a compaction at t keeps
abbrev pub is_kept_push : List Event → ℕ → Event → Bool
is_kept_push h t e = is_any_push e.what && keeps h t e e.what
