-- A list of which some members may be missing (own).
use Rattle.std.specs.Prelude.{List, [], ◌∷◌}

-- The first list is the second one, in its order, perhaps without some of those members that aren't needed.
pub data IsPart {X : Type 0} (Needed : X → Type 0) : List X → List X → Type 0 where
  IsEnd : IsPart Needed [] []
  Has : (x : X) (part all : List X) → IsPart Needed part all → IsPart Needed (x ∷ part) (x ∷ all)
  Lacks : (x : X) (part all : List X) → (Needed x → ⊥) → IsPart Needed part all → IsPart Needed part (x ∷ all)
