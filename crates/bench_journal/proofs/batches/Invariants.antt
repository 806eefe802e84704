use Rattle.std.specs.Prelude.{All}
use Rattle.ws_journal.specs.Text.{IsPayload}
use Rattle.bench_journal.proofs.batches.Given as goal

abbrev pub invariant-loop : goal.invariant-loop
invariant-loop l = All IsPayload l.made.items
