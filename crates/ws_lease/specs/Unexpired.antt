-- The numbers of those that haven't expired, of ends by number.
use Rattle.std.specs.Prelude.{ℕ, List, [], map, filter, nat_lt, Option, Some, None}

abbrev pub unexpired_numbers : ℕ → List (ℕ × ℕ) → List ℕ
unexpired_numbers t ends = map (λ e. e.0) (filter (λ e. nat_lt t e.1) ends)

abbrev pub all_unexpired : ℕ → Option (List (ℕ × ℕ)) → List ℕ
all_unexpired t None = []
all_unexpired t (Some ends) = unexpired_numbers t ends
