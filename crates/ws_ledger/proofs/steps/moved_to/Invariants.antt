use Rattle.std.proofs.Common.{◌≡◌, ◌++◌, drop}
use Rattle.ws_ledger.specs.Pairs.{moved_to}
use Rattle.ws_ledger.proofs.steps.moved_to.Given as goal

abbrev pub invariant-loop-pair : goal.invariant-loop-pair
invariant-loop-pair l = l.moved.items ++ moved_to l.lease (drop l.pair-index l.pairs) ≡ moved_to l.lease l.pairs
