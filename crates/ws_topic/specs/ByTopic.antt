-- Lists of topics, in the order of their bytes, with what stands there (own).
use Rattle.std.specs.Prelude.{◌≡◌, ℕ, List, [], ◌∷◌, Option, Vec, map}
use Rattle.std.specs.List.{AllByRecursion}
use Rattle.std.specs.declared.cmp.Ordering.{Ordering}
use Rattle.std.specs.declared.cmp.Ordering.TheVariants.{Less}
use Rattle.std.specs.Ordering.{nat_cmp}
use Rattle.std.specs.Cmp.Lexicographic.{slice_cmp}
use Rattle.std.specs.Map.{lookup, remove_entry}
use Rattle.std.specs.BTreeMap.{insert_entry, is_at}

-- the entries of a map whose keys are `Vec`s, with the keys' bytes
abbrev pub by_bytes : {X Y : Type 0} → List (Vec ℕ Y × X) → List (List ℕ × X)
by_bytes es = map (λ e. (e.0.items, e.1)) es

-- what stands at a topic
abbrev pub at_topic : {X : Type 0} → List ℕ → List (List ℕ × X) → Option X
at_topic topic es = lookup (is_at (slice_cmp nat_cmp topic)) es

abbrev pub with_topic : {X : Type 0} → List ℕ → X → List (List ℕ × X) → List (List ℕ × X)
with_topic topic x es = insert_entry (slice_cmp nat_cmp) es topic x

abbrev pub without_topic : {X : Type 0} → List ℕ → List (List ℕ × X) → List (List ℕ × X)
without_topic topic es = remove_entry (is_at (slice_cmp nat_cmp topic)) es

-- each topic is below all that follow
abbrev pub IsAscending : List (List ℕ) → Type 0
IsAscending [] = Unit {0}
IsAscending (x ∷ xs) = AllByRecursion (λ (y : List ℕ). slice_cmp nat_cmp x y ≡ Less) xs × IsAscending xs
