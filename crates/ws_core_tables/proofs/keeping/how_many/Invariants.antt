use Rattle.std.proofs.Common.{◌≡◌, ◌+◌, length}
use Rattle.ws_core_tables.proofs.keeping.how_many.Given as goal

abbrev pub invariant-loop-number : goal.invariant-loop-number
invariant-loop-number l = l.number + length l._number-iterator ≡ length l.fn.numbers
