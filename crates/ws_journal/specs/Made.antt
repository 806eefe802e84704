-- What the making of a device leaves of it (own).
use Rattle.std.specs.Prelude.{◌≡◌, ◌⊎◌, ℕ, ◌<◌, List, [], ◌∷◌, ◌++◌, length, take}
use Rattle.ws_disk.specs.Crash.{LeavesOnly}
use Rattle.ws_journal.specs.declared.store.Edition.TheVariants.{Second}
use Rattle.ws_journal.specs.Text.{head_text, records, front}
use Rattle.ws_journal.specs.Image.{IsUnused, IsBelow}
use Rattle.ws_journal.specs.Kept.{IsShut, IsInDoubt, Each}

-- too short for a device
abbrev pub IsShort : List ℕ → Type 0
IsShort file = length file < 18

-- its gate's byte is there
abbrev pub HasGate : List ℕ → Type 0
HasGate file = 0 < length file

-- its gate's byte is 0
abbrev pub IsZeroed : List ℕ → Type 0
IsZeroed file = take 1 file ≡ 0 ∷ []

-- A device that doesn't count beside one of this generation. Where a crash may leave it without its gate's byte, no crash
-- leaves it long enough for a device: a gate that is written there never stands before bytes of an older one.
pub record IsSpare (generation : ℕ) (images : List ℕ → Type 0) : Type 0 where
  pub below : Each images (IsBelow generation)
  pub gate : Each images IsShort ⊎ Each images HasGate

-- a run of calls that leaves it such a device at any moment
pub record StaysSpare {D : Type 0} (moment : D → ℕ) (images : D → ℕ → List ℕ → Type 0) (generation : ℕ) (old new : D) : Type 0 where
  pub run : LeavesOnly moment images old new (IsBelow generation)
  pub spare : IsSpare generation (images new (moment new))

-- what stands behind the gate of a device of edition 2, up to its last gate
abbrev pub body_text : ℕ → List (List ℕ) → List ℕ
body_text generation payloads = head_text Second generation ++ records Second payloads

-- the device of edition 2 with these batches, behind a gate in doubt
abbrev pub IsHalfMade : ℕ → List (List ℕ) → List ℕ → Type 0
IsHalfMade generation payloads file = IsInDoubt [] (body_text generation payloads) file

-- the device of edition 2 with these batches
abbrev pub IsMade : ℕ → List (List ℕ) → List ℕ → Type 0
IsMade generation payloads file = IsShut (front Second generation payloads) file

-- a device that doesn't count beside one of an older generation, or the one that was made
abbrev pub IsBelowOrMade : ℕ → ℕ → List (List ℕ) → List ℕ → Type 0
IsBelowOrMade older generation payloads file = IsBelow older file ⊎ IsMade generation payloads file

-- an unused device, or the one that was made
abbrev pub IsUnusedOrMade : ℕ → List (List ℕ) → List ℕ → Type 0
IsUnusedOrMade generation payloads file = IsUnused file ⊎ IsMade generation payloads file
