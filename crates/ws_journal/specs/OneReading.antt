-- Two devices read as at most one thing (own).
use Rattle.std.specs.Prelude.{◌≡◌, ℕ, List}
use Rattle.ws_journal.specs.Image.{Reading, Reads}

abbrev pub OneReading : Type 0
OneReading = (a b : List ℕ) (first second : Reading) → Reads a b first → Reads a b second → first ≡ second
