-- The core between two changes of an event: all of it stands, but rooms of past versions may be there.
use Rattle.std.proofs.Common.{◌≡◌, ℕ, ◌≤◌, List, ◌∷◌}
use Rattle.std.specs.Prelude.{is_some, None, true, false}
use Rattle.ws_model.specs.declared.event.Event.{Event}
use Rattle.ws_model.specs.Legal.{Legal}
use Rattle.ws_model.specs.Verdict.{pair_of}
use Rattle.ws_tries.specs.Rows.{Rows as TryRows, is_listed, tries_at}
use Rattle.ws_tries.specs.Stands.{HaveRooms, StandsFor as TriesStand}
use Rattle.ws_kept.specs.Stands.{AreRenewed, IsLogged}
use Rattle.ws_ledger.specs.Births.{AreBirths}
use Rattle.ws_ledger.specs.Stands.{StandsFor as LedgerStands}
use Rattle.ws_core.specs.Past.{IsPast}
use Rattle.ws_core.specs.Rows.{Rows}
use Rattle.ws_core.specs.Stands.{StandsFor}

pub record Holds (h : List Event) (since : ℕ) (rows : Rows) : Type 0 where
  pub ledger : LedgerStands h since rows.ledger
  pub log : IsLogged h since rows.log
  pub renewals : AreRenewed h since rows.renewals
  pub tries : TriesStand h rows.tries
  pub only : (v n : ℕ) → pair_of h v n ≡ None → tries_at v n rows.tries ≡ None
  pub rooms : HaveRooms h since rows.tries

abbrev pub HoldsOn : Event → Rows → Rows → Type 0
HoldsOn e old new = (h : List Event) (since : ℕ) → StandsFor h since old → Legal (e ∷ h) → since ≤ e.t → Holds (e ∷ h) e.t new

pub holds : (h : List Event) (since : ℕ) (rows : Rows) → StandsFor h since rows → Holds h since rows
holds h since rows s = record { ledger = s.ledger; log = s.log; renewals = s.renewals; tries = s.tries; only = s.only; rooms = s.rooms }

pub whole : (h : List Event) (since : ℕ) (rows : Rows) → Holds h since rows → ((v n : ℕ) → IsPast h rows.ledger.fates v → tries_at v n rows.tries ≡ None) → StandsFor h since rows
whole h since rows s past = record { ledger = s.ledger; log = s.log; renewals = s.renewals; tries = s.tries; only = s.only; rooms = s.rooms; past = past }

-- the pairs that an event makes get rooms, no other pair does, and no room goes
pub record Bears (e : Event) (h : List Event) (old new : TryRows) : Type 0 where
  pub births : List (ℕ × ℕ)
  pub born : AreBirths e h births
  pub stay : (v n : ℕ) → is_some (tries_at v n old) ≡ true → is_some (tries_at v n new) ≡ true
  pub none : (v n : ℕ) → is_listed v n births ≡ false → tries_at v n old ≡ None → tries_at v n new ≡ None

abbrev pub BearsOn : Event → Rows → Rows → Type 0
BearsOn e old new = (h : List Event) (since : ℕ) → StandsFor h since old → Legal (e ∷ h) → since ≤ e.t → Bears e h old.tries new.tries
