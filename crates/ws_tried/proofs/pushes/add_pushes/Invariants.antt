use Rattle.std.proofs.Common.{◌≡◌, drop, ◌++◌}
use Rattle.std.specs.Prelude.{map}
use Rattle.ws_tries.specs.Stands.{event_of}
use Rattle.ws_tried.proofs.pushes.add_pushes.Given as goal

abbrev pub invariant-loop-made : goal.invariant-loop-made
invariant-loop-made l = l.events.items ++ map (event_of l.ver l.lease) (drop l.made-index l.tries) ≡ l.fn.events.items ++ map (event_of l.ver l.lease) l.tries
