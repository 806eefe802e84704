-- Bytes behind a gate that count where the gate is open (own).
use Rattle.std.specs.Prelude.{◌≡◌, ◌⊎◌, ◌≢◌, ℕ, ◌+◌, List, [], length, drop, slice_index, if◌then◌else◌, ◌==◌}

-- the bytes behind the gate where it is 1
abbrev pub recovered : ℕ → List ℕ → List ℕ
recovered gate file = if slice_index file gate == 1 then drop (gate + 1) file else []

-- the gate is the last byte, and closed
pub record IsClosed (gate : ℕ) (file : List ℕ) : Type 0 where
  pub last : length file ≡ gate + 1
  pub shut : slice_index file gate ≢ 1

-- the file stands for these bytes or for none
abbrev pub IsBeforeOrAfter : ℕ → List ℕ → List ℕ → Type 0
IsBeforeOrAfter gate bytes file = (recovered gate file ≡ []) ⊎ (recovered gate file ≡ bytes)
