use Rattle.ws_lease.specs.Table.{live_at}
use Rattle.ws_core_tables.specs.Births.{IsDone, born_for}
use Rattle.ws_core_tables.proofs.births.open_all.Given as goal

abbrev pub invariant-loop-n : goal.invariant-loop-n
invariant-loop-n l = IsDone l.ver l.fn.numbers l.n-iterator (λ n. born_for l.t (live_at n l.t l.leases)) l.fn.deliveries l.deliveries
