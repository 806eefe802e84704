-- How many pairs of each version stand open (own).
use Rattle.std.specs.Prelude.{◌≡◌, ℕ, Bool, List, length, filter, ◌==◌, ◌&&◌, unwrap_or}
use Rattle.std.specs.Ordering.{nat_cmp}
use Rattle.std.specs.Map.{lookup}
use Rattle.std.specs.BTreeMap.{is_at}
use Rattle.ws_fate.specs.declared.totals.Standing.{Standing}
use Rattle.ws_fate.specs.Rows.{is_open}

-- the number that is kept of a version; one that has none has no entry
abbrev pub number_of : ℕ → List (ℕ × ℕ) → ℕ
number_of ver counts = unwrap_or (lookup (is_at (nat_cmp ver)) counts) 0

-- an open pair of this version
abbrev pub is_open_of : ℕ → (ℕ × ℕ) × Standing → Bool
is_open_of ver e = (e.0.1 == ver) && is_open e.1

-- of each version the number of its open pairs is kept
abbrev pub AreCounted : List ((ℕ × ℕ) × Standing) → List (ℕ × ℕ) → Type 0
AreCounted pairs counts = (v : ℕ) → number_of v counts ≡ length (filter (is_open_of v) pairs)
