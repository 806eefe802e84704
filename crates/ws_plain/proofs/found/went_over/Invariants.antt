use Rattle.std.proofs.Common.{◌≡◌, ◌++◌, drop}
use Rattle.std.specs.Prelude.{◌&&◌, filter, map}
use Rattle.ws_model.specs.Intents.{same_pair}
use Rattle.ws_plain.specs.Kept.{is_version_in}
use Rattle.ws_plain.proofs.found.went_over.Given as goal

-- the numbers so far and those of the pairs left are those of all
abbrev pub invariant-loop-pair : goal.invariant-loop-pair
invariant-loop-pair l =
    l.replaced.items
    ++ map (λ p. p.lease.intent.n) (filter (λ p. is_version_in l.versions.latest.items l.versions.owed.items p.version.ver && same_pair l.lease.intent p.lease.intent) (drop l.pair-index l.owed))
    ≡ map (λ p. p.lease.intent.n) (filter (λ p. is_version_in l.versions.latest.items l.versions.owed.items p.version.ver && same_pair l.lease.intent p.lease.intent) l.owed)
