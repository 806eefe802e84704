use Rattle.std.proofs.Common.{◌≡◌, ◌++◌}
use Rattle.ws_ledger.specs.Pairs.{with_version}
use Rattle.ws_ledger.proofs.fetched.with_version.Given as goal

abbrev pub invariant-loop-lease : goal.invariant-loop-lease
invariant-loop-lease l = l.pairs.items ++ with_version l.ver l.lease-iterator ≡ with_version l.ver l.fn.leases
