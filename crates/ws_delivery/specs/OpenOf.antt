-- The versions that are open for a lease (own).
use Rattle.std.specs.Prelude.{ℕ, cond, List, [], ◌∷◌, map, filter, Option, Some, None}
use Rattle.ws_delivery.specs.declared.open_pair.OpenPair.{OpenPair}
use Rattle.ws_delivery.specs.Table.{Rows, is_of_lease}

-- the versions of the open pairs of a lease
abbrev pub open_versions : ℕ → Rows → List ℕ
open_versions n rows = map (λ e. e.0.1) (filter (is_of_lease n) rows)

-- the versions of the rows up to the first one that is of another lease
abbrev pub first_versions : ℕ → Rows → List ℕ
first_versions n [] = []
first_versions n (e ∷ rows) = cond (is_of_lease n e) (e.0.1 ∷ first_versions n rows) []

abbrev pub versions_left : ℕ → Option (List ((ℕ × ℕ) × OpenPair)) → List ℕ
versions_left n None = []
versions_left n (Some rows) = first_versions n rows
