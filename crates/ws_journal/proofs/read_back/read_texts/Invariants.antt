use Rattle.std.proofs.Common.{◌≡◌, ◌-◌, ◌++◌, List, ℕ}
use Rattle.ws_journal.specs.Ahead.{Shows}
use Rattle.ws_journal.specs.Looks.{OnlyReads}
use Rattle.ws_journal.specs.UpTo.{IsUpTo}
use Rattle.ws_journal.proofs.read_back.read_texts.Given as goal

abbrev pub invariant-loop-at : goal.invariant-loop-at
invariant-loop-at g l =
    let D = g.D.Disk in
    record {
      shows : Shows D.honest D.seen l.disk l.ahead;
      reads : OnlyReads D.honest D.seen D.moment D.images D.faults l.fn.disk l.disk;
      so_far : D.honest l.fn.disk → (payloads : List (List ℕ)) (left : List ℕ) → IsUpTo l.edition l.from l.end payloads left (D.seen l.fn.disk)
          → (rest : List (List ℕ)) × (payloads ≡ l.texts.items ++ rest) × IsUpTo l.edition l.at l.end rest left (D.seen l.fn.disk);
    }

abbrev pub decreases-loop-at : goal.decreases-loop-at
decreases-loop-at g l = l.end - l.at
