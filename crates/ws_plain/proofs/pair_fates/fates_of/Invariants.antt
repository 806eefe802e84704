use Rattle.std.proofs.Common.{◌≡◌, ◌++◌, drop}
use Rattle.std.specs.Prelude.{map}
use Rattle.ws_plain.specs.PairFates.{pair_fate}
use Rattle.ws_plain.specs.Past.{past}
use Rattle.ws_plain.proofs.pair_fates.fates_of.Given as goal

-- the fates so far and those of the pairs left are those of all
abbrev pub invariant-loop-pair : goal.invariant-loop-pair
invariant-loop-pair l =
    l.fates.items ++ map (pair_fate (past l.events) l.t) (drop l.pair-index l.pairs)
    ≡ map (pair_fate (past l.events) l.t) l.pairs
