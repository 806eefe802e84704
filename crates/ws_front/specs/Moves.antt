-- What calls do to the bytes that a source has left and to those that a sink was given (own).
use Rattle.std.specs.Prelude.{◌≡◌, ℕ, List, ◌++◌, Option, IfSome}
use Rattle.std.specs.Io.KnownBytes.{Appends}

abbrev pub IsPrefix : List ℕ → List ℕ → Type 0
IsPrefix front whole = (rest : List ℕ) × (front ++ rest ≡ whole)

-- a part of the bytes came behind what was written
abbrev pub AppendsSome : Option (List ℕ) → Option (List ℕ) → List ℕ → Type 0
AppendsSome old new bytes = (part : List ℕ) × Appends old new part × IsPrefix part bytes

-- the bytes that were read are all that a source had left, where it tells
abbrev pub IsAll : Option (List ℕ) → List ℕ → Type 0
IsAll left bytes = IfSome left (λ all. bytes ≡ all)
