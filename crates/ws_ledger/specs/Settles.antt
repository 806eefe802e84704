-- Of which work an outcome may be judged (own).
use Rattle.std.specs.Prelude.{◌≡◌, true, is_some, List}
use Rattle.ws_model.specs.declared.event.Event.{Event}
use Rattle.ws_model.specs.declared.work.Work.{Work}
use Rattle.ws_model.specs.declared.work.Work.TheVariants.{Verify}
use Rattle.ws_model.specs.Legal.{pending_of}

-- a verification is of a pending intent
abbrev pub IsOfPending : List Event → Work → Type 0
IsOfPending h (Verify n) = is_some (pending_of h n) ≡ true
IsOfPending h _ = Unit {0}
