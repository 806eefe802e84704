-- What calls do to the bytes that a source has left (own).
use Rattle.std.specs.Prelude.{◌≡◌, ◌≢◌, ℕ, ◌<◌, ◌≤◌, Vec, List, [], ◌∷◌, ◌++◌, length, Option, Some, None, Result, Ok, Err, IfSome}
use Rattle.std.specs.Global.{Global}
use Rattle.std.specs.Io.KnownBytes.{Consumes, IsAtEnd}
use Rattle.ws_script.specs.declared.take.ReadFault.{ReadFault}
use Rattle.ws_script.specs.declared.take.ReadFault.TheVariants.{Failed, NoMemory as Wanting}

-- some bytes were read, of which this holds
abbrev pub ConsumesSome : Option (List ℕ) → Option (List ℕ) → (List ℕ → Type 0) → Type 0
ConsumesSome old new Holds = (bytes : List ℕ) × Consumes old new bytes × Holds bytes

-- no sound thing stands at the front of these bytes
abbrev pub NoneOf : {X : Type 0} → (X → List ℕ) → (X → Type 0) → List ℕ → Type 0
NoneOf {X} text_of IsSound bytes = (x : X) (rest : List ℕ) → IsSound x → bytes ≢ text_of x ++ rest

-- nothing stands behind a sound thing at the front of these bytes
abbrev pub NoneBehind : {X : Type 0} → (X → List ℕ) → (X → Type 0) → List ℕ → Type 0
NoneBehind {X} text_of IsSound bytes = (x : X) (rest : List ℕ) → IsSound x → bytes ≡ text_of x ++ rest → rest ≡ []

-- Reading a thing: its text was read; or what was left doesn't begin with such a text; or the source
-- failed before the whole of one was read; or there was no memory, and nothing was read behind one.
abbrev pub Reads : {X Y : Type 0} → (X → List ℕ) → (X → Type 0) → (Y → X) → Option (List ℕ) → Option (List ℕ) → Result (Option Y) ReadFault → Type 0
Reads text_of IsSound view old new (Ok (Some y)) = Consumes old new (text_of (view y)) × IsSound (view y)
Reads text_of IsSound view old new (Ok None) = ConsumesSome old new (λ bytes. Unit {0}) × IfSome old (NoneOf text_of IsSound)
Reads text_of IsSound view old new (Err Failed) = ConsumesSome old new (NoneOf text_of IsSound)
Reads text_of IsSound view old new (Err Wanting) = ConsumesSome old new (NoneBehind text_of IsSound)

-- one byte is read, or there is none
abbrev pub TakesByte : {E : Type 0} → Option (List ℕ) → Option (List ℕ) → Result (Option ℕ) E → Type 0
TakesByte old new (Ok (Some b)) = Consumes old new (b ∷ [])
TakesByte old new (Ok None) = Consumes old new [] × IsAtEnd old
TakesByte old new (Err e) = Consumes old new []

-- a piece of at most `most` bytes is read behind the body, and none only at the end
abbrev pub TakesPiece : {E : Type 0} → ℕ → List ℕ → List ℕ → Option (List ℕ) → Option (List ℕ) → Result ℕ E → Type 0
TakesPiece most body body' old new (Ok n) =
    (piece : List ℕ) × Consumes old new piece × (body' ≡ body ++ piece) × (length piece ≡ n) × (n ≤ most) × (n ≡ 0 → IsAtEnd old)
TakesPiece most body body' old new (Err e) = ConsumesSome old new (λ piece. length piece ≤ most)

-- so many bytes are read, or fewer are left
abbrev pub TakesBytes : {E : Type 0} → ℕ → Option (List ℕ) → Option (List ℕ) → Result (Option (Vec ℕ Global)) E → Type 0
TakesBytes size old new (Ok (Some bytes)) = Consumes old new bytes.items × (length bytes.items ≡ size)
TakesBytes size old new (Ok None) = ConsumesSome old new (λ read. Unit {0}) × IfSome old (λ all. length all < size)
TakesBytes size old new (Err e) = ConsumesSome old new (λ read. length read ≤ size)
