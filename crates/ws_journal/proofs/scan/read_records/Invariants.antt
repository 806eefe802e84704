use Rattle.std.proofs.Common.{◌≡◌, ◌<◌, ◌≤◌, ◌-◌, length}
use Rattle.std.specs.Prelude.{All}
use Rattle.ws_journal.specs.Text.{IsRecorded}
use Rattle.ws_journal.specs.Ahead.{Shows}
use Rattle.ws_journal.specs.Looks.{OnlyReads}
use Rattle.ws_journal.proofs.Found.{SoFar}
use Rattle.ws_journal.proofs.scan.read_records.Given as goal

abbrev pub invariant-loop-batches : goal.invariant-loop-batches
invariant-loop-batches g l =
    let D = g.D.Disk in
    record {
      begun : 17 ≤ l.at;
      within : l.at < l.size;
      shows : Shows D.honest D.seen l.disk l.ahead;
      reads : OnlyReads D.honest D.seen D.moment D.images D.faults l.fn.disk l.disk;
      recorded : All IsRecorded l.batches.items;
      so_far : D.honest l.fn.disk → l.size ≡ length (D.seen l.fn.disk) → SoFar l.edition l.at (D.seen l.fn.disk) l.batches.items;
    }

abbrev pub decreases-loop-batches : goal.decreases-loop-batches
decreases-loop-batches g l = l.size - l.at
