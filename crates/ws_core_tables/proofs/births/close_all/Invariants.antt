use Rattle.std.specs.Prelude.{None}
use Rattle.ws_core_tables.specs.Births.{IsDone}
use Rattle.ws_core_tables.proofs.births.close_all.Given as goal

abbrev pub invariant-loop-n : goal.invariant-loop-n
invariant-loop-n l = IsDone l.ver l.fn.numbers l.n-iterator (λ n. None) l.fn.deliveries l.deliveries
