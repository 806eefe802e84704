use Rattle.std.proofs.Common.{◌≤◌, ◌-◌, length}
use Rattle.std.specs.Io.KnownBytes.{Consumes}
use Rattle.ws_script.proofs.take.take_bytes.Given as goal

abbrev pub invariant-loop-bytes : goal.invariant-loop-bytes
invariant-loop-bytes g l = record {
  room : length l.bytes.items ≤ l.size;
  taken : Consumes (g.S.Source.left l.fn.source) (g.S.Source.left l.source) l.bytes.items;
  later : g.S.Source.faults l.fn.source ≤ g.S.Source.faults l.source;
}

abbrev pub decreases-loop-bytes : goal.decreases-loop-bytes
decreases-loop-bytes g l = l.size - length l.bytes.items
