use Rattle.std.proofs.Common.{◌≡◌, drop}
use Rattle.ws_model.specs.Due.{is_behind}
use Rattle.ws_plain.proofs.works.is_behind.Given as goal

-- none of those that were seen is one
abbrev pub invariant-loop-other : goal.invariant-loop-other
invariant-loop-other l = is_behind (drop l.other-index l.owed) l.pair ≡ is_behind l.owed l.pair
