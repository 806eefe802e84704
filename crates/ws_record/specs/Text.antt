-- The text of each field of an event (own): a number is unsigned and big-endian, and a list of bytes
-- stands behind its length in 4 bytes.
use Rattle.std.specs.Prelude.{ℕ, ◌-◌, ◌*◌, ◌^◌, ◌<◌, min, Bool, true, false, List, [], ◌∷◌, ◌++◌, length}
use Rattle.std.specs.Int.{Width, byte_len, w16, w32, to_be_bytes}
use Rattle.ws_model.specs.declared.event.Mode.{Mode}
use Rattle.ws_model.specs.declared.event.Mode.TheVariants.{Off, On}
use Rattle.ws_model.specs.declared.event.Alg.{Alg}
use Rattle.ws_model.specs.declared.event.Alg.TheVariants.{Sha1, Sha256, Sha384, Sha512}
use Rattle.ws_model.specs.declared.event.How.{How}
use Rattle.ws_model.specs.declared.event.How.TheVariants.{Done, Gone, Missed}

-- a field, with its value
pub data Field : Type 0 where
  number : Width → ℕ → Field
  bytes : List ℕ → Field
  mode : Mode → Field
  alg : Alg → Field
  flag : Bool → Field
  how : How → Field

-- a number in all the bytes of its width, the highest first
unfoldable pub number_text : Width → ℕ → List ℕ
number_text w n = to_be_bytes w n

-- bytes behind their length
abbrev pub bytes_text : List ℕ → List ℕ
bytes_text content = number_text w32 (length content) ++ content

abbrev pub mode_text : Mode → List ℕ
mode_text Off = 0 ∷ []
mode_text On = 1 ∷ []

abbrev pub alg_text : Alg → List ℕ
alg_text Sha1 = 0 ∷ []
alg_text Sha256 = 1 ∷ []
alg_text Sha384 = 2 ∷ []
alg_text Sha512 = 3 ∷ []

abbrev pub flag_text : Bool → List ℕ
flag_text false = 0 ∷ []
flag_text true = 1 ∷ []

-- a miss has its code behind it
abbrev pub how_text : How → List ℕ
how_text Done = 0 ∷ []
how_text Gone = 1 ∷ []
how_text (Missed code) = 2 ∷ number_text w16 code

abbrev pub field_text : Field → List ℕ
field_text (number w n) = number_text w n
field_text (bytes content) = bytes_text content
field_text (mode m) = mode_text m
field_text (alg a) = alg_text a
field_text (flag b) = flag_text b
field_text (how h) = how_text h

-- A field has a text that is read again where its number fits its bytes, and its list has fewer than
-- 2 ^ 32 bytes.
abbrev pub NumberFits : Width → ℕ → Type 0
NumberFits w n = n < 2 ^ (8 * byte_len w)

abbrev pub BytesFit : List ℕ → Type 0
BytesFit content = length content < 2 ^ 32

abbrev pub HowFits : How → Type 0
HowFits Done = Unit {0}
HowFits Gone = Unit {0}
HowFits (Missed code) = NumberFits w16 code

abbrev pub FieldFits : Field → Type 0
FieldFits (number w n) = NumberFits w n
FieldFits (bytes content) = BytesFit content
FieldFits (mode m) = Unit {0}
FieldFits (alg a) = Unit {0}
FieldFits (flag b) = Unit {0}
FieldFits (how h) = HowFits h

-- a sum of lengths, which stops at the end of 64 bits
abbrev pub capped : ℕ → ℕ
capped n = min n (2 ^ 64 - 1)
