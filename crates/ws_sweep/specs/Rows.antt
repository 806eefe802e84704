-- A list that is gone over as contracts see it (own).
use Rattle.std.specs.Prelude.{ℕ, List, [], ◌∷◌, ◌++◌, Option, None, Some}

-- the members that this round has looked at, those that are left, and how many more find place without memory
pub record Rows (X : Type 0) : Type 0 where
  pub looked : List X
  pub left : List X
  pub room : ℕ

-- all members, in their order
abbrev pub members : {X : Type 0} → Rows X → List X
members rows = rows.looked ++ rows.left

abbrev pub first_of : {X : Type 0} → List X → Option X
first_of [] = None
first_of (x ∷ xs) = Some x
