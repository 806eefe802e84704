-- Bytes that a line or a word has not (own).
use Rattle.std.specs.Prelude.{◌≡◌, ℕ, Bool, false, not, ◌&&◌, ◌==◌, List, [], ◌∷◌, length}
use Rattle.std.specs.List.{list_any}

-- no byte is this one
abbrev pub Lacks : ℕ → List ℕ → Type 0
Lacks byte [] = Unit {0}
Lacks byte (b ∷ bytes) = ((b == byte) ≡ false) × Lacks byte bytes

-- no byte is a line feed
abbrev pub IsOneLine : List ℕ → Type 0
IsOneLine = Lacks 10

abbrev pub has_byte : ℕ → List ℕ → Bool
has_byte byte = list_any (λ b. b == byte)

-- a word: at least one byte, and neither a space nor a line feed
abbrev pub is_word : List ℕ → Bool
is_word text = not (length text == 0) && not (has_byte 32 text) && not (has_byte 10 text)
