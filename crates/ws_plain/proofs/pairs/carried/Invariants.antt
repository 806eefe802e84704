use Rattle.std.proofs.Common.{◌≡◌, [], ◌∷◌, ◌++◌, drop}
use Rattle.std.specs.Prelude.{filter}
use Rattle.ws_model.specs.Fate.{fate, is_owed}
use Rattle.ws_model.specs.Pairs.{carried}
use Rattle.ws_plain.specs.Past.{past}
use Rattle.ws_plain.proofs.pairs.carried.Given as goal

-- the pairs so far and those that the pairs left give are those of all
abbrev pub invariant-loop-pair : goal.invariant-loop-pair
invariant-loop-pair l =
    l.carried.items ++ carried l.t (filter (λ p. is_owed (fate (past l.earlier) p l.t)) (drop l.pair-index l.pairs)) (l.lease ∷ [])
    ≡ carried l.t (filter (λ p. is_owed (fate (past l.earlier) p l.t)) l.pairs) (l.lease ∷ [])
