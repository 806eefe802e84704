use Rattle.std.proofs.Common.{◌≡◌, ◌++◌, drop}
use Rattle.std.specs.Prelude.{◌&&◌, filter, nat_le, not}
use Rattle.ws_model.specs.Due.{is_behind}
use Rattle.ws_model.specs.Fate.{next}
use Rattle.ws_plain.specs.Past.{past}
use Rattle.ws_plain.proofs.works.due_among.Given as goal

-- the pairs so far and those due of the pairs left are those of all
abbrev pub invariant-loop-pair : goal.invariant-loop-pair
invariant-loop-pair l =
    l.due.items ++ filter (λ p. nat_le (next (past l.events) p) l.t && not (is_behind l.owed p)) (drop l.pair-index l.owed)
    ≡ filter (λ p. nat_le (next (past l.events) p) l.t && not (is_behind l.owed p)) l.owed
