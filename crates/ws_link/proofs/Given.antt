-- What was given of a list of bytes.
use Rattle.std.proofs.Common.{◌≡◌, ℕ, ◌+◌, ◌-◌, List, ◌++◌, length, take, drop, sym, ◌∙◌, ap, length-drop}
use Rattle.std.proofs.Math.Seq.{take-add, take-length}

rest_whole : (at : ℕ) (bytes : List ℕ) → take (length bytes - at) (drop at bytes) ≡ drop at bytes
rest_whole at bytes = ap (λ (k : ℕ). take k (drop at bytes)) (sym (length-drop at bytes)) ∙ take-length (drop at bytes)

-- what was given, and then a piece of the rest
pub given_more : (at n : ℕ) (bytes into : List ℕ) → take n into ≡ take n (take (length bytes - at) (drop at bytes))
    → take (at + n) bytes ≡ take at bytes ++ take n into
given_more at n bytes into same =
    take-add at n bytes ∙ ap (λ (piece : List ℕ). take at bytes ++ piece) (sym (same ∙ ap (take n) (rest_whole at bytes)))
