use Rattle.std.proofs.Common.{◌≡◌, ◌++◌, drop}
use Rattle.std.specs.Prelude.{map}
use Rattle.ws_model.specs.declared.work.Work.TheVariants.{Push}
use Rattle.ws_plain.proofs.works.pushes_of.Given as goal

-- the work so far and that of those left is that of all
abbrev pub invariant-loop-pair : goal.invariant-loop-pair
invariant-loop-pair l =
    l.works.items ++ map (λ p. Push p.version.ver p.lease.intent.n) (drop l.pair-index l.pairs)
    ≡ map (λ p. Push p.version.ver p.lease.intent.n) l.pairs
