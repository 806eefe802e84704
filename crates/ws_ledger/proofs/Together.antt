-- Over several events that make and end no pair.
use Rattle.std.proofs.Common.{◌≡◌, ℕ, suc, ◌≤◌, Bool, true, false, ◌&&◌, List, [], ◌∷◌, refl, arith}
use Rattle.std.specs.List.{list_all}
use Rattle.ws_model.specs.declared.event.Event.{Event}
use Rattle.ws_model.specs.declared.event.What.{What}
use Rattle.ws_model.specs.Legal.{Legal}
use Rattle.ws_model.specs.Moment.{serial}
use Rattle.ws_fate.specs.Stands.{is_quiet}
use Rattle.ws_core_tables.specs.Rows.{Rows as TableRows}
use Rattle.ws_core_tables.specs.Stands.{StandsFor as TablesStand}
use Rattle.ws_core_tables.specs.Committing.{committed}
use Rattle.ws_ledger.specs.Committing.{are_quiet}
use Rattle.ws_ledger.specs.Rows.{Rows}
use Rattle.ws_ledger.specs.Stands.{StandsFor}
use Rattle.ws_ledger.proofs.Going.{PairsFor, pairs_quiet}

-- the history before was legal
pub legal_past : (t : ℕ) (whats : List What) (h : List Event) → Legal (committed t whats h) → Legal h
legal_past t [] h l = l
legal_past t (w ∷ ws) h l = (legal_past t ws (record { serial = suc (serial h); t = t; what = w } ∷ h) l).0

trans : (a b c : ℕ) → a ≤ b → b ≤ c → a ≤ c
trans a b c p q = omega arith

first_of : (a b : Bool) → (a && b) ≡ true → a ≡ true
first_of true b e = refl
first_of false b e = absurd (cc)

rest_of : (a b : Bool) → (a && b) ≡ true → b ≡ true
rest_of true b e = e
rest_of false b e = absurd (cc)

pub pairs_all : (t : ℕ) (whats : List What) (h : List Event) (since : ℕ) (rows : Rows) → PairsFor h since rows → Legal (committed t whats h) → since ≤ t → are_quiet whats ≡ true → PairsFor (committed t whats h) t rows
pairs_all t [] h since rows s l le quiet = record {
  shows = λ u v n more. s.shows u v n (trans since t u le more);
  enough = λ u more. s.enough u (trans since t u le more);
  totals = λ u more. s.totals u (trans since t u le more);
}
pairs_all t (w ∷ ws) h since rows s l le quiet =
    let e : Event = record { serial = suc (serial h); t = t; what = w } in
    let next = pairs_quiet e h since rows s (legal_past t ws (e ∷ h) l) le (first_of (is_quiet w) (list_all is_quiet ws) quiet) in
    pairs_all t ws (e ∷ h) t rows next l (omega arith) (rest_of (is_quiet w) (list_all is_quiet ws) quiet)

pub all_go_on : (t : ℕ) (whats : List What) (h : List Event) (since : ℕ) (old : Rows) (tables : TableRows) → StandsFor h since old → Legal (committed t whats h) → since ≤ t → are_quiet whats ≡ true → TablesStand (committed t whats h) t tables
    → StandsFor (committed t whats h) t (record { tables = tables; fates = old.fates; open_pairs = old.open_pairs })
all_go_on t whats h since old tables s l le quiet stand =
    let pairs = pairs_all t whats h since old (record { shows = s.shows; enough = s.enough; totals = s.totals }) l le quiet in
    record { tables = stand; shows = pairs.shows; enough = pairs.enough; totals = pairs.totals }
