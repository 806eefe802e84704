use Rattle.std.proofs.Common.{◌≡◌, ◌++◌, drop}
use Rattle.ws_model.specs.Keep.{numbers}
use Rattle.ws_plain.proofs.found.numbers.Given as goal

-- the numbers so far and those of the leases left are those of all
abbrev pub invariant-loop-lease : goal.invariant-loop-lease
invariant-loop-lease l = l.numbers.items ++ numbers (drop l.lease-index l.leases) ≡ numbers l.leases
