-- Where the gap is (own).
use Rattle.std.specs.Prelude.{ℕ, ◌≤◌}

-- the gap begins behind the members that were looked at, and ends before those that are left, within the vector
pub record AreWithin (looked left len : ℕ) : Type 0 where
  pub begins : looked ≤ left
  pub ends : left ≤ len
