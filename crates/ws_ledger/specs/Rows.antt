-- The ledger as contracts see it: what the tables show, what became of each pair, and how many pairs stand open (own).
use Rattle.std.specs.Prelude.{ℕ}
use Rattle.ws_core_tables.specs.Rows.{Rows as TableRows}
use Rattle.ws_fate.specs.Rows.{Rows as FateRows}

pub record Rows : Type 0 where
  pub tables : TableRows
  pub fates : FateRows
  pub open_pairs : ℕ
