use Rattle.std.proofs.Common.{◌≡◌, ◌++◌, drop}
use Rattle.std.specs.Prelude.{◌==◌, filter}
use Rattle.std.specs.List.{list_any}
use Rattle.ws_model.specs.Keep.{numbers}
use Rattle.ws_plain.proofs.found.with_notice.Given as goal

-- the numbers so far and those of the leases left are those of all
abbrev pub invariant-loop-lease : goal.invariant-loop-lease
invariant-loop-lease l =
    l.noticed.items ++ numbers (filter (λ x. list_any (λ i. i.n == x.intent.n) l.notices) (drop l.lease-index l.leases))
    ≡ numbers (filter (λ x. list_any (λ i. i.n == x.intent.n) l.notices) l.leases)
