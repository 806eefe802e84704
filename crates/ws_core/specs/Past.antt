-- The versions that no compaction would keep (own).
use Rattle.std.specs.Prelude.{◌≡◌, ℕ, ◌<◌, false, List, Some}
use Rattle.ws_model.specs.declared.event.Event.{Event}
use Rattle.ws_model.specs.Legal.{number_limit}
use Rattle.ws_fate.specs.declared.totals.Standing.TheVariants.{Open}
use Rattle.ws_fate.specs.Rows.{Rows as FateRows, standing_at}
use Rattle.ws_kept.specs.Finding.{is_latest}

-- the version isn't the latest of its topic, and no pair of it stands open
pub record IsPast (h : List Event) (fates : FateRows) (v : ℕ) : Type 0 where
  pub low : v < number_limit
  pub superseded : is_latest h v ≡ false
  pub closed : (n : ℕ) → standing_at v n fates ≡ Some Open → ⊥
