-- The core as contracts see it (own).
use Rattle.std.specs.Prelude.{List}
use Rattle.ws_model.specs.declared.event.Event.{Event}
use Rattle.ws_tries.specs.Rows.{Rows as TryRows}
use Rattle.ws_kept.specs.declared.renewal.Renewal.{Renewal}
use Rattle.ws_ledger.specs.Rows.{Rows as LedgerRows}

-- the ledger, and what a compaction needs beside it: the log of what happened but pushes, the oldest first, each new lease with what was
-- asked for the one that it replaced, the oldest first, and the pushes of each pair that has a room
pub record Rows : Type 0 where
  pub ledger : LedgerRows
  pub log : List Event
  pub renewals : List Renewal
  pub tries : TryRows
