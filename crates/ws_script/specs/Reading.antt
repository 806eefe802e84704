-- The parts of a happening's text (own), and how a reading fails.
use Rattle.std.specs.Prelude.{◌≡◌, ℕ, ◌≤◌, List, [], ◌∷◌, ◌++◌, length, Result, IsErrOf}
use Rattle.ws_model.specs.Cause.{Rose}
use Rattle.ws_script.specs.declared.take.ReadFault.{ReadFault}
use Rattle.ws_script.specs.declared.take.ReadFault.TheVariants.{Failed}
use Rattle.ws_script.specs.Bytes.{IsOneLine}

-- the bytes and a line feed
abbrev pub with_line_feed : List ℕ → List ℕ
with_line_feed bytes = bytes ++ 10 ∷ []

-- a line that a script may have
abbrev pub IsShortLine : List ℕ → Type 0
IsShortLine bytes = IsOneLine bytes × (length bytes ≤ 4096)

-- a body of that size
abbrev pub HasSize : ℕ → List ℕ → Type 0
HasSize size bytes = length bytes ≡ size

-- a reading fails only where the count rose
pub record HasReadCause {T : Type 0} (before after : ℕ) (result : Result T ReadFault) : Type 0 where
  pub later : before ≤ after
  pub failed : IsErrOf result Failed → Rose before after
