use Rattle.std.proofs.Common.{◌-◌, ◌≤◌, ℕ, List}
use Rattle.ws_http.specs.RequestStages.{fed_count}
use Rattle.ws_front.specs.Reading.{IsOpen}
use Rattle.ws_front.proofs.Reading.{SoFar}
use Rattle.ws_front.proofs.read.read_on.Given as goal

abbrev pub invariant-pieces : goal.invariant-pieces
invariant-pieces g l = record {
  so_far : (first : List ℕ) → IsOpen l.fn.reader first → SoFar first l.fn.reader l.reader (g.S.Source.left l.fn.source) (g.S.Source.left l.source) l.came;
  later : g.S.Source.faults l.fn.source ≤ g.S.Source.faults l.source;
}

abbrev pub decreases-pieces : goal.decreases-pieces
decreases-pieces g l = 16385 - fed_count l.reader
