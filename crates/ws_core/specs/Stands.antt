-- For which history the core stands (own).
use Rattle.std.specs.Prelude.{◌≡◌, ℕ, ◌≤◌, List, ◌∷◌, None}
use Rattle.ws_model.specs.declared.event.Event.{Event}
use Rattle.ws_model.specs.Legal.{Legal}
use Rattle.ws_model.specs.Verdict.{pair_of}
use Rattle.ws_tries.specs.Rows.{tries_at}
use Rattle.ws_tries.specs.Stands.{HaveRooms, StandsFor as TriesStand}
use Rattle.ws_kept.specs.Stands.{AreRenewed, IsLogged}
use Rattle.ws_ledger.specs.Stands.{StandsFor as LedgerStands}
use Rattle.ws_core.specs.Past.{IsPast}
use Rattle.ws_core.specs.Rows.{Rows}

-- From the moment `since` on the ledger stands for the history. The log has its events but the pushes, and its renewals stand beside it,
-- both perhaps without those that no compaction from then on keeps. A pair that has a room is one of the history, with exactly its pushes there, each pair that a compaction would keep has one,
-- and none of a version that no compaction would keep.
pub record StandsFor (h : List Event) (since : ℕ) (rows : Rows) : Type 0 where
  pub ledger : LedgerStands h since rows.ledger
  pub log : IsLogged h since rows.log
  pub renewals : AreRenewed h since rows.renewals
  pub tries : TriesStand h rows.tries
  pub only : (v n : ℕ) → pair_of h v n ≡ None → tries_at v n rows.tries ≡ None
  pub rooms : HaveRooms h since rows.tries
  pub past : (v n : ℕ) → IsPast h rows.ledger.fates v → tries_at v n rows.tries ≡ None

-- what stands for a history goes over to what stands for the history with the event
abbrev pub GoesOn : Event → Rows → Rows → Type 0
GoesOn e old new = (h : List Event) (since : ℕ) → StandsFor h since old → Legal (e ∷ h) → since ≤ e.t → StandsFor (e ∷ h) e.t new

-- a history for which the core stands, and which the event may follow
pub record CanFollow (rows : Rows) (e : Event) : Type 0 where
  pub past : List Event
  pub since : ℕ
  pub stands : StandsFor past since rows
  pub legal : Legal (e ∷ past)
  pub in_time : since ≤ e.t
