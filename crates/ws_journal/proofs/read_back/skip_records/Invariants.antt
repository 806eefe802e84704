use Rattle.std.proofs.Common.{◌≤◌, List, ℕ, length, drop}
use Rattle.ws_journal.specs.Ahead.{Shows}
use Rattle.ws_journal.specs.Looks.{OnlyReads}
use Rattle.ws_journal.specs.UpTo.{IsUpTo}
use Rattle.ws_journal.proofs.read_back.skip_records.Given as goal

abbrev pub invariant-loop : goal.invariant-loop
invariant-loop g l =
    let D = g.D.Disk in
    record {
      shows : Shows D.honest D.seen l.disk l.ahead;
      reads : OnlyReads D.honest D.seen D.moment D.images D.faults l.fn.disk l.disk;
      so_far : D.honest l.fn.disk → (payloads : List (List ℕ)) (left : List ℕ) → l.count ≤ length payloads → IsUpTo l.edition 17 l.end payloads left (D.seen l.fn.disk)
          → IsUpTo l.edition l.at l.end (drop l.counter payloads) left (D.seen l.fn.disk);
    }
