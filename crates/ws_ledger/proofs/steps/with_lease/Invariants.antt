use Rattle.std.proofs.Common.{◌≡◌, ◌++◌}
use Rattle.ws_ledger.specs.Pairs.{with_lease}
use Rattle.ws_ledger.proofs.steps.with_lease.Given as goal

abbrev pub invariant-loop-ver : goal.invariant-loop-ver
invariant-loop-ver l = l.pairs.items ++ with_lease l.lease l.ver-iterator ≡ with_lease l.lease l.fn.versions
