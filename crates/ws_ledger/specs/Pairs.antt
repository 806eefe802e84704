-- Lists of pairs, each of them a version and a lease (own).
use Rattle.std.specs.Prelude.{◌≡◌, ℕ, zero, suc, Bool, false, ◌&&◌, List, [], ◌∷◌, ◌==◌, Option, Some, None, map}
use Rattle.std.specs.List.{list_any}
use Rattle.ws_delivery.specs.OpenOf.{open_versions}
use Rattle.ws_delivery.specs.Table.{Rows as DeliveryRows}
use Rattle.ws_fate.specs.declared.totals.Standing.{Standing}
use Rattle.ws_fate.specs.declared.totals.Totals.{Totals}
use Rattle.ws_fate.specs.Totals.{with_one}

-- the pair of this version and this lease is one of these
abbrev pub is_listed : ℕ → ℕ → List (ℕ × ℕ) → Bool
is_listed v n pairs = list_any (λ p. (p.0 == v) && (p.1 == n)) pairs

-- each pair stands there once
abbrev pub AreApart : List (ℕ × ℕ) → Type 0
AreApart [] = Unit {0}
AreApart (p ∷ pairs) = (is_listed p.0 p.1 pairs ≡ false) × AreApart pairs

-- these versions with one lease
abbrev pub with_lease : ℕ → List ℕ → List (ℕ × ℕ)
with_lease n versions = map (λ v. (v, n)) versions

-- one version with these leases
abbrev pub with_version : ℕ → List ℕ → List (ℕ × ℕ)
with_version v leases = map (λ n. (v, n)) leases

-- the same versions with another lease
abbrev pub moved_to : ℕ → List (ℕ × ℕ) → List (ℕ × ℕ)
moved_to n pairs = map (λ p. (p.0, n)) pairs

-- the open pairs of a lease, where there is one
abbrev pub open_pairs_of : Option ℕ → DeliveryRows → List (ℕ × ℕ)
open_pairs_of None rows = []
open_pairs_of (Some n) rows = with_lease n (open_versions n rows)

-- with so many more pairs that ended so
abbrev pub with_many : ℕ → Standing → Totals → Totals
with_many zero how c = c
with_many (suc k) how c = with_many k how (with_one how c)
