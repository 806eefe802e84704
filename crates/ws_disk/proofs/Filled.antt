-- Bytes of an image of which some are filled.
use Rattle.std.proofs.Common.{◌≤◌, ℕ, Bool, List, [], ◌∷◌, length, arith}
use Rattle.ws_disk.specs.Torn.{filled}

pub length-filled : (byte : ℕ) (content : List ℕ) (written : List Bool) → length (filled byte content written) ≤ length content
length-filled byte [] written = omega arith
length-filled byte (b ∷ content) [] = omega arith
length-filled byte (b ∷ content) (w ∷ written) = omega (arith, length-filled byte content written)
