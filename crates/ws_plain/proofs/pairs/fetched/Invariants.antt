use Rattle.std.proofs.Common.{◌≡◌, ◌++◌, drop}
use Rattle.std.specs.Prelude.{bytes_eq, filter, map}
use Rattle.ws_model.specs.Pairs.{pair}
use Rattle.ws_plain.proofs.pairs.fetched.Given as goal

-- the pairs so far and those of the leases left are those of all
abbrev pub invariant-loop-lease : goal.invariant-loop-lease
invariant-loop-lease l =
    l.pairs.items ++ map (pair l.t l.version) (filter (λ x. bytes_eq x.intent.topic l.version.topic) (drop l.lease-index l.live))
    ≡ map (pair l.t l.version) (filter (λ x. bytes_eq x.intent.topic l.version.topic) l.live)
