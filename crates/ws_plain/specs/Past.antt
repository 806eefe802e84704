-- The history that a slice of events stands for (own).
use Rattle.std.specs.Prelude.{List, reverse}
use Rattle.ws_model.specs.declared.event.Event.{Event}

-- Code holds events oldest first; the definitions look back from the newest.
unfoldable pub past : List Event → List Event
past events = reverse events
