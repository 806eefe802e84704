-- Which event may come next by its order and the history, whatever the bounds of its own fields are (own).
use Rattle.std.specs.Prelude.{Bool, false, ◌&&◌, List, Option, Some, None}
use Rattle.ws_model.specs.declared.event.Event.{Event}
use Rattle.ws_model.specs.declared.event.What.{What}
use Rattle.ws_model.specs.declared.event.What.TheVariants.{Tally}
use Rattle.ws_model.specs.declared.fate.Fate.{Fate}
use Rattle.ws_model.specs.Fate.{is_owed}
use Rattle.ws_model.specs.Legal.{is_allowed, is_first_tally, is_in_order}

abbrev pub comes_next_as : Event → List Event → What → Bool
comes_next_as e h (Tally c) = is_first_tally e h
comes_next_as e h w = is_in_order e h && is_allowed w e.t h

-- its serial and its time are in order, and the history allows what happened; a Tally comes first
abbrev pub comes_next : Event → List Event → Bool
comes_next e h = comes_next_as e h e.what

abbrev pub is_owed_one : Option Fate → Bool
is_owed_one None = false
is_owed_one (Some f) = is_owed f
