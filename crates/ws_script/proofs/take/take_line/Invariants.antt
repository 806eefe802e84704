use Rattle.std.proofs.Common.{◌≡◌, ◌≤◌, length}
use Rattle.std.specs.Io.KnownBytes.{Consumes}
use Rattle.ws_script.specs.Bytes.{IsOneLine}
use Rattle.ws_script.proofs.take.take_line.Given as goal

abbrev pub invariant-bytes : goal.invariant-bytes
invariant-bytes g l = record {
  count : length l.line.items ≡ l.counter;
  line : IsOneLine l.line.items;
  taken : Consumes (g.S.Source.left l.fn.source) (g.S.Source.left l.source) l.line.items;
  later : g.S.Source.faults l.fn.source ≤ g.S.Source.faults l.source;
}
