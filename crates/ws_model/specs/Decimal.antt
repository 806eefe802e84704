-- Numbers in decimal digits (own).
use Rattle.std.specs.Prelude.{ℕ, ◌+◌, ◌*◌, ◌-◌, List, fold}

-- the number that decimal digits write, a byte below that of 0 counting as 0
abbrev pub number_of : List ℕ → ℕ
number_of digits = fold (λ n digit. 10 * n + (digit - 48)) 0 digits
