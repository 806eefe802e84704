use Rattle.std.proofs.Common.{◌≡◌, ◌++◌, drop}
use Rattle.std.specs.Prelude.{map}
use Rattle.ws_model.specs.declared.work.Work.TheVariants.{Fetch}
use Rattle.ws_plain.proofs.works.fetches_of.Given as goal

-- the work so far and that of those left is that of all
abbrev pub invariant-loop-ping : goal.invariant-loop-ping
invariant-loop-ping l =
    l.works.items ++ map (λ p. Fetch p.topic l.upto) (drop l.ping-index l.pings)
    ≡ map (λ p. Fetch p.topic l.upto) l.pings
