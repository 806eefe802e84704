use Rattle.std.proofs.Common.{◌≡◌, ◌+◌, ◌≤◌, ◌↔◌, length, take}
use Rattle.ws_disk.specs.Crash.{overwritten, LeavesOnly}
use Rattle.ws_journal.specs.declared.store.Edition.TheVariants.{Second}
use Rattle.ws_journal.specs.Text.{records}
use Rattle.ws_journal.specs.Kept.{Keeps, After}
use Rattle.ws_journal.proofs.make.write_records.Given as goal

abbrev pub invariant-loop-batch : goal.invariant-loop-batch
invariant-loop-batch g l = record {
  end : l.end ≡ l.at + length (records Second (take l.batch-index l.batches));
  honesty : g.D.Disk.honest l.disk ↔ g.D.Disk.honest l.fn.disk;
  written : g.D.Disk.honest l.fn.disk → g.D.Disk.seen l.disk ≡ overwritten l.at (records Second (take l.batch-index l.batches)) (g.D.Disk.seen l.fn.disk);
  run : g.D.Disk.honest l.fn.disk → LeavesOnly g.D.Disk.moment g.D.Disk.images l.fn.disk l.disk (After (Keeps l.at) (g.D.Disk.images l.fn.disk (g.D.Disk.moment l.fn.disk)));
  later : g.D.Disk.faults l.fn.disk ≤ g.D.Disk.faults l.disk;
}
