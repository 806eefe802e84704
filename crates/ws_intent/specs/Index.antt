-- What the index of topics and callbacks says (own).
use Rattle.std.specs.Prelude.{◌≡◌, ℕ, ◌≤◌, Bool, true, false, List, Option, Some, None, Vec}
use Rattle.std.specs.declared.cmp.Ordering.{Ordering}
use Rattle.std.specs.Ordering.{nat_cmp}
use Rattle.std.specs.Cmp.Lexicographic.{slice_cmp}
use Rattle.std.specs.BTreeMap.{BTreeMap, get_by}
use Rattle.std.specs.BTreeSet.{BTreeSet, contains}
use Rattle.std.specs.Option.{MatchOption}

-- the query for a key of these bytes
abbrev pub bytes_query : {Y : Type 0} → List ℕ → Vec ℕ Y → Ordering
bytes_query bytes k = slice_cmp nat_cmp bytes k.items

abbrev pub in_set : Option (BTreeSet ℕ) → ℕ → Bool
in_set None q = false
in_set (Some s) q = contains nat_cmp s q

-- whether the number stands at the callback
abbrev pub has_at : {Y : Type 0} → BTreeMap (Vec ℕ Y) (BTreeSet ℕ) → List ℕ → ℕ → Bool
has_at m callback q = in_set (get_by (bytes_query callback) m) q

abbrev pub in_map : {Y : Type 0} → Option (BTreeMap (Vec ℕ Y) (BTreeSet ℕ)) → List ℕ → ℕ → Bool
in_map None b q = false
in_map (Some m) b q = has_at m b q

-- whether the number stands at the topic and the callback
abbrev pub has_in : {Y Z : Type 0} → BTreeMap (Vec ℕ Y) (BTreeMap (Vec ℕ Z) (BTreeSet ℕ)) → List ℕ → List ℕ → ℕ → Bool
has_in m topic callback q = in_map (get_by (bytes_query topic) m) callback q

-- the least number that passes, or that none does
abbrev pub IsLeast : (ℕ → Bool) → Option ℕ → Type 0
IsLeast has o = MatchOption o ((q : ℕ) → has q ≡ false) (λ m. (has m ≡ true) × ((q : ℕ) → has q ≡ true → m ≤ q))
