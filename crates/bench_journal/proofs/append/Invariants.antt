use Rattle.std.proofs.Common.{◌≡◌}
use Rattle.ws_journal.specs.declared.store.Edition.TheVariants.{Second}
use Rattle.ws_journal.specs.Stands.{HasTail}
use Rattle.bench_journal.proofs.append.Given as goal

abbrev pub invariant-loop : goal.invariant-loop
invariant-loop g l =
    let D = g.D.Disk in
    record {
      edition : l.journal.edition ≡ Second;
      place : HasTail D.honest D.moment D.images l.journal l.store;
    }
