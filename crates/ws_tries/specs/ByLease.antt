-- The pairs that have a room, by lease (own).
use Rattle.std.specs.Prelude.{◌≡◌, ℕ, Bool, is_some}
use Rattle.std.specs.BTreeSet.{BTreeSet, contains}
use Rattle.ws_tries.specs.Rows.{Rows, pair_order, tries_at}

-- whether the pair of this version and this lease stands in the set, in which the lease comes first
abbrev pub is_in : BTreeSet (ℕ × ℕ) → ℕ → ℕ → Bool
is_in pairs v n = contains pair_order pairs (n, v)

-- just the pairs that have a room stand there
abbrev pub AreRoomed : BTreeSet (ℕ × ℕ) → Rows → Type 0
AreRoomed pairs rows = (v n : ℕ) → is_in pairs v n ≡ is_some (tries_at v n rows)
