-- For which history the ledger stands (own).
use Rattle.std.specs.Prelude.{◌≡◌, ℕ, ◌-◌, ◌≤◌, List, ◌∷◌, length}
use Rattle.std.specs.Option.{option_map}
use Rattle.ws_model.specs.declared.event.Event.{Event}
use Rattle.ws_model.specs.declared.fate.Cause.TheVariants.{Expired}
use Rattle.ws_model.specs.Account.{account}
use Rattle.ws_model.specs.Legal.{Legal}
use Rattle.ws_model.specs.Pairs.{owed}
use Rattle.ws_model.specs.Verdict.{fate_of}
use Rattle.ws_core_tables.specs.Stands.{StandsFor as TablesStand}
use Rattle.ws_fate.specs.declared.totals.Standing.{Standing}
use Rattle.ws_fate.specs.declared.totals.Standing.TheVariants.{Open, Ended}
use Rattle.ws_fate.specs.Rows.{standing_at}
use Rattle.ws_fate.specs.Stands.{with_expired}
use Rattle.ws_fate.specs.Totals.{standing, of_account}
use Rattle.ws_ledger.specs.Rows.{Rows}

-- what is kept of a pair: no event says that it has expired, so it stays open
abbrev pub kept : Standing → Standing
kept (Ended Expired) = Open
kept s = s

-- From the moment `since` on the tables stand for the history, and what became of each pair is the history's, where an expired one
-- is kept as an open one. Of the open pairs those that aren't owed have expired: counted so, the numbers of answered and ended pairs
-- are the account's.
pub record StandsFor (h : List Event) (since : ℕ) (rows : Rows) : Type 0 where
  pub tables : TablesStand h since rows.tables
  pub shows : (t v n : ℕ) → since ≤ t → standing_at v n rows.fates ≡ option_map kept (option_map standing (fate_of h v n t))
  pub enough : (t : ℕ) → since ≤ t → length (owed h t) ≤ rows.open_pairs
  pub totals : (t : ℕ) → since ≤ t → with_expired (rows.open_pairs - length (owed h t)) rows.fates.totals ≡ of_account (account h t)

-- what stands for a history goes over to what stands for the history with the event
abbrev pub GoesOn : Event → Rows → Rows → Type 0
GoesOn e old new = (h : List Event) (since : ℕ) → StandsFor h since old → Legal (e ∷ h) → since ≤ e.t → StandsFor (e ∷ h) e.t new

-- a history for which the ledger stands, and which the event may follow
pub record CanFollow (rows : Rows) (e : Event) : Type 0 where
  pub past : List Event
  pub since : ℕ
  pub stands : StandsFor past since rows
  pub legal : Legal (e ∷ past)
  pub in_time : since ≤ e.t
