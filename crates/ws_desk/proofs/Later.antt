-- What stands from a moment on stands from a later one on.
use Rattle.std.proofs.Common.{ℕ, ◌≤◌, List, arith}
use Rattle.ws_model.specs.declared.event.Event.{Event}
use Rattle.ws_model.specs.Legal.{Legal}
use Rattle.ws_ledger.specs.Rows.{Rows as LedgerRows}
use Rattle.ws_ledger.specs.Stands.{StandsFor as LedgerStands}
use Rattle.ws_kept.proofs.Fewer.{renewed_at}
use Rattle.ws_core.proofs.Fewer.{logged_later}
use Rattle.ws_core.proofs.AllKept.{rooms_later}
use Rattle.ws_core.specs.Rows.{Rows}
use Rattle.ws_core.specs.Stands.{StandsFor}
use Rattle.ws_desk.specs.Holds.{Holds}

trans : (a b c : ℕ) → a ≤ b → b ≤ c → a ≤ c
trans a b c p q = omega arith

pub ledger_later : (h : List Event) (since t : ℕ) (rows : LedgerRows) → LedgerStands h since rows → since ≤ t → LedgerStands h t rows
ledger_later h since t rows s le =
    let leases = s.tables.leases in
    let deliveries = s.tables.deliveries in
    record {
      tables = record {
        intents = s.tables.intents;
        leases = record {
          begun = trans _ _ _ leases.begun le;
          shows = λ u n more. leases.shows u n (trans since t u le more);
          confirmed = leases.confirmed;
        };
        topics = s.tables.topics;
        deliveries = record {
          begun = trans _ _ _ deliveries.begun le;
          shows = λ u v n more. deliveries.shows u v n (trans since t u le more);
        };
        pairs = s.tables.pairs;
        kept = s.tables.kept;
        numbers = s.tables.numbers;
      };
      shows = λ u v n more. s.shows u v n (trans since t u le more);
      enough = λ u more. s.enough u (trans since t u le more);
      totals = λ u more. s.totals u (trans since t u le more);
    }

pub stands_later : (h : List Event) (since t : ℕ) (rows : Rows) → StandsFor h since rows → Legal h → since ≤ t → StandsFor h t rows
stands_later h since t rows s l le =
    record {
      ledger = ledger_later h since t rows.ledger s.ledger le;
      log = logged_later h since t rows.log l le s.log;
      renewals = renewed_at h since t rows.renewals l le s.renewals;
      tries = s.tries;
      only = s.only;
      rooms = rooms_later h since t rows.tries l le s.rooms;
      past = s.past;
    }

pub holds_later : (core : Rows) (used t count : ℕ) (h : List Event) → Holds core used count h → used ≤ t → Holds core t count h
holds_later core used t count h s le =
    record { stands = stands_later h used t core s.stands s.legal le; legal = s.legal; in_time = trans _ _ _ s.in_time le; counted = s.counted }
