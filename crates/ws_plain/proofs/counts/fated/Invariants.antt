use Rattle.std.proofs.Common.{◌≡◌, ◌+◌, ◌≤◌, drop, length}
use Rattle.std.specs.Prelude.{filter}
use Rattle.ws_model.specs.Fate.{fate}
use Rattle.ws_plain.specs.Alike.{alike}
use Rattle.ws_plain.specs.Past.{past}
use Rattle.ws_plain.proofs.counts.fated.Given as goal

-- the count so far and those of the pairs left are those of all
abbrev pub invariant-loop-pair : goal.invariant-loop-pair
invariant-loop-pair l =
    record {
      bound : l.count ≤ l.pair-index;
      count : l.count + length (filter (λ p. alike l.wanted (fate (past l.events) p l.t)) (drop l.pair-index l.pairs))
          ≡ length (filter (λ p. alike l.wanted (fate (past l.events) p l.t)) l.pairs);
    }
