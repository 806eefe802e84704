use Rattle.std.proofs.Common.{◌≡◌, ◌≤◌}
use Rattle.ws_drive.specs.Standing.{IsWorld}
use Rattle.ws_drive.specs.World.{World}
use Rattle.ws_drive.proofs.Runs.{SoFar}
use Rattle.ws_drive.proofs.play.drive_over.Given as goal

abbrev pub invariant-steps : goal.invariant-steps
invariant-steps g l = record {
  reached : World;
  so_far : SoFar l.fn.settings (g.S.Source.left l.fn.source) (g.S.Source.left l.source) (g.K.Sink.written l.fn.sink) (g.K.Sink.written l.sink) l.i reached;
  stands : IsWorld g.P.Port.seen g.P.Port.settings g.P.Port.moment l.clock l.port reached;
  settings : g.P.Port.settings l.port ≡ g.P.Port.settings l.fn.port;
  reads : g.S.Source.faults l.fn.source ≤ g.S.Source.faults l.source;
  writes : g.K.Sink.faults l.fn.sink ≤ g.K.Sink.faults l.sink;
}
