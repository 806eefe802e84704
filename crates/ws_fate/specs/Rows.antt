-- What a table of pairs shows (own).
use Rattle.std.specs.Prelude.{ℕ, Bool, true, false, List, ◌==◌, ◌&&◌, Option}
use Rattle.std.specs.Ordering.{nat_cmp, ordering_then}
use Rattle.std.specs.declared.cmp.Ordering.{Ordering}
use Rattle.std.specs.Map.{lookup}
use Rattle.std.specs.BTreeMap.{is_at}
use Rattle.ws_fate.specs.declared.totals.Standing.{Standing}
use Rattle.ws_fate.specs.declared.totals.Standing.TheVariants.{Open, Answered, Ended}
use Rattle.ws_fate.specs.declared.totals.Totals.{Totals}

-- the pairs by lease and version with what became of them, and how many ended in each way
pub record Rows : Type 0 where
  pub pairs : List ((ℕ × ℕ) × Standing)
  pub totals : Totals

-- by lease, then by version
abbrev pub pair_order : ℕ × ℕ → ℕ × ℕ → Ordering
pair_order x y = ordering_then (nat_cmp x.0 y.0) (nat_cmp x.1 y.1)

-- what became of the pair of this version and this lease
abbrev pub standing_at : ℕ → ℕ → Rows → Option Standing
standing_at v n rows = lookup (is_at (pair_order (n, v))) rows.pairs

-- it is this version and this lease
abbrev pub is_here : ℕ → ℕ → ℕ → ℕ → Bool
is_here ver lease v n = (lease == n) && (ver == v)

-- the pair is open
abbrev pub is_open : Standing → Bool
is_open Open = true
is_open Answered = false
is_open (Ended cause) = false
