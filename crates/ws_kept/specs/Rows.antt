-- What a compaction keeps, as contracts see it (own).
use Rattle.std.specs.Prelude.{ℕ, List}

-- the numbers of versions and of leases
pub record Rows : Type 0 where
  pub versions : List ℕ
  pub leases : List ℕ
