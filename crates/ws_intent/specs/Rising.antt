-- Numbers that rise (own).
use Rattle.std.specs.Prelude.{ℕ, ◌<◌, Bool, false, List, [], ◌∷◌, Option, Some, None, ◌==◌}
use Rattle.std.specs.List.{AllByRecursion, list_any}

-- each number is below all that follow
abbrev pub IsRising : List ℕ → Type 0
IsRising [] = Unit {0}
IsRising (x ∷ xs) = AllByRecursion (λ (y : ℕ). x < y) xs × IsRising xs

abbrev pub has_number : List ℕ → ℕ → Bool
has_number xs q = list_any (λ x. x == q) xs

abbrev pub is_it : Option ℕ → ℕ → Bool
is_it None q = false
is_it (Some m) q = m == q
