-- What a table of tries shows (own).
use Rattle.std.specs.Prelude.{ℕ, Bool, List, ◌==◌, ◌&&◌, ◌||◌, not, find, nat_lt, option_map, Option}
use Rattle.std.specs.List.{list_any}
use Rattle.std.specs.Ordering.{nat_cmp, ordering_then}
use Rattle.std.specs.declared.cmp.Ordering.{Ordering}
use Rattle.std.specs.Map.{lookup}
use Rattle.std.specs.BTreeMap.{is_at}
use Rattle.ws_tries.specs.declared.room.Try.{Try}

-- the pairs that have a room, by version and lease, each with its tries, the oldest first
abbrev pub Rows : Type 0
Rows = List ((ℕ × ℕ) × List Try)

-- by version, then by lease
abbrev pub pair_order : ℕ × ℕ → ℕ × ℕ → Ordering
pair_order x y = ordering_then (nat_cmp x.0 y.0) (nat_cmp x.1 y.1)

-- the tries of the pair of this version and this lease, where it has a room
abbrev pub tries_at : ℕ → ℕ → Rows → Option (List Try)
tries_at v n rows = lookup (is_at (pair_order (v, n))) rows

-- it is this version and this lease
abbrev pub is_here : ℕ → ℕ → ℕ → ℕ → Bool
is_here ver lease v n = (ver == v) && (lease == n)

-- the pair is one of these, each a version and a lease
abbrev pub is_listed : ℕ → ℕ → List (ℕ × ℕ) → Bool
is_listed v n pairs = list_any (λ p. (p.0 == v) && (p.1 == n)) pairs

-- the pair is that of this version and this lease, or comes after it
abbrev pub is_from : ℕ → ℕ → ℕ × ℕ → Bool
is_from v n p = nat_lt v p.0 || ((v == p.0) && not (nat_lt p.1 n))

-- the first pair from this one on that has a room
abbrev pub next_pair : ℕ → ℕ → Rows → Option (ℕ × ℕ)
next_pair v n rows = option_map (λ e. e.0) (find (λ e. is_from v n e.0) rows)
