-- What calls that write nothing leave of a disk (own).
use Rattle.std.specs.Prelude.{◌≡◌, ℕ, ◌≤◌, ◌↔◌, List}
use Rattle.ws_disk.specs.Crash.{NoMore, LeavesOnly}

-- A read gives the same, and a crash at any moment of these calls, or after them, leaves nothing that one before them
-- mightn't have left.
pub record Unwritten {D : Type 0} (seen : D → List ℕ) (moment : D → ℕ) (images : D → ℕ → List ℕ → Type 0) (old new : D) : Type 0 where
  pub same : seen new ≡ seen old
  pub crash : LeavesOnly moment images old new (images old (moment old))
  pub calm : NoMore (images old (moment old)) (images new (moment new))

-- nothing was written, where the disk is honest, and its count of faults didn't fall
pub record OnlyReads {D : Type 0} (honest : D → Type 0) (seen : D → List ℕ) (moment : D → ℕ) (images : D → ℕ → List ℕ → Type 0) (faults : D → ℕ) (old new : D) : Type 0 where
  pub honesty : honest new ↔ honest old
  pub unwritten : honest old → Unwritten seen moment images old new
  pub later : faults old ≤ faults new
