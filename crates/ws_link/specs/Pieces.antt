-- In which pieces a source in memory gives its bytes (own).
use Rattle.std.specs.Prelude.{ℕ, ◌-◌, ◌^◌, max, List, Option, Some, None, slice_get}

abbrev pub size_or_all : Option ℕ → ℕ
size_or_all (Some size) = max size 1
size_or_all None = 2 ^ 64 - 1

-- the most that the call of this number gives: the size in the list, at least 1, and behind the list all
abbrev pub piece_size : List ℕ → ℕ → ℕ
piece_size pieces call = size_or_all (slice_get pieces call)
