use Rattle.std.proofs.Common.{◌≡◌, ◌++◌, drop}
use Rattle.std.specs.Prelude.{map}
use Rattle.ws_model.specs.declared.work.Work.TheVariants.{Notice}
use Rattle.ws_plain.proofs.works.notices_of.Given as goal

-- the work so far and that of those left is that of all
abbrev pub invariant-loop-intent : goal.invariant-loop-intent
invariant-loop-intent l =
    l.works.items ++ map (λ i. Notice i.n) (drop l.intent-index l.intents)
    ≡ map (λ i. Notice i.n) l.intents
