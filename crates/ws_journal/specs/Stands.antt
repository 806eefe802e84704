-- What a journal stands for, on the two devices of its store (own).
use Rattle.std.specs.Prelude.{◌≡◌, ◌⊎◌, ℕ, ◌<◌, ◌≤◌, ◌+◌, List, [], ◌∷◌, ◌++◌, length, Option, Some, None, All, Result, Ok, Err, IsErr}
use Rattle.ws_journal.specs.declared.store.Edition.{Edition}
use Rattle.ws_journal.specs.declared.store.Edition.TheVariants.{First, Second}
use Rattle.ws_journal.specs.declared.store.Side.{Side}
use Rattle.ws_journal.specs.declared.store.Side.TheVariants.{A, B}
use Rattle.ws_journal.specs.declared.store.Store.{Store}
use Rattle.ws_journal.specs.declared.store.AppendFault.{AppendFault}
use Rattle.ws_journal.specs.declared.store.AppendFault.TheVariants.{Disk, Full, NoMemory}
use Rattle.ws_disk.specs.declared.disk.DiskFailed.{DiskFailed}
use Rattle.ws_journal.specs.declared.journal.Journal.{Journal}
use Rattle.ws_journal.specs.declared.journal.Doubt.{Doubt}
use Rattle.ws_journal.specs.declared.journal.Doubt.TheVariants.{Nothing, Batch}
use Rattle.ws_journal.specs.Text.{front, record_text, IsPayload}
use Rattle.ws_journal.specs.Image.{Reading, found, Reads, IsGeneration}
use Rattle.ws_journal.specs.Kept.{IsShut, IsInDoubt, IsWithOrWithout, Each, Reaches}
use Rattle.ws_journal.specs.Made.{IsSpare}

abbrev pub edition_number : Edition → ℕ
edition_number First = 1
edition_number Second = 2

-- the device that counts, and the other one
abbrev pub counting : {D : Type 0} → Side → Store D → D
counting A store = store.a
counting B store = store.b

abbrev pub other : {D : Type 0} → Side → Store D → D
other A store = store.b
other B store = store.a

-- how a file of the device that counts reads with one of the other
abbrev pub ReadsAs : Side → List ℕ → List ℕ → Reading → Type 0
ReadsAs A file second reading = Reads file second reading
ReadsAs B file second reading = Reads second file reading

-- no crash now leaves the device that counts shorter than the journal's tail says, where that device is honest
abbrev pub HasTail : {D : Type 0} → (D → Type 0) → (D → ℕ) → (D → ℕ → List ℕ → Type 0) → Journal → Store D → Type 0
HasTail honest moment images journal store =
    honest (counting journal.side store) → Each (images (counting journal.side store) (moment (counting journal.side store))) (Reaches journal.tail)

-- the device that counts, up to its last gate: with no batch in doubt, or with one
abbrev pub IsLeft : List ℕ → Option (List ℕ) → List ℕ → Type 0
IsLeft begun None = IsShut begun
IsLeft begun (Some payload) = IsInDoubt begun (record_text Second payload)

abbrev pub doubt_of : Option (List ℕ) → Doubt
doubt_of None = Nothing
doubt_of (Some payload) = Batch

-- each of these images of the device that counts is this, and the journal knows its tail and whether a batch is in doubt
pub record Counts (journal : Journal) (begun : List ℕ) (doubt : Option (List ℕ)) (images : List ℕ → Type 0) : Type 0 where
  pub tail : journal.tail ≡ length begun + 1
  pub each : Each images (IsLeft begun doubt)
  pub known : journal.doubt ≡ doubt_of doubt

-- a batch in doubt is one batch
abbrev pub IsDoubted : Option (List ℕ) → Type 0
IsDoubted None = Unit {0}
IsDoubted (Some payload) = IsPayload payload

-- The journal stands for the batches of these texts, beside the batch in doubt: a crash now leaves nothing else.
pub record Stands {D : Type 0} (moment : D → ℕ) (images : D → ℕ → List ℕ → Type 0) (journal : Journal) (store : Store D) (payloads : List (List ℕ)) (doubt : Option (List ℕ)) : Type 0 where
  pub generation : IsGeneration journal.edition journal.generation
  pub batches : All IsPayload payloads
  pub doubted : IsDoubted doubt
  pub device : Counts journal (front journal.edition journal.generation payloads) doubt (images (counting journal.side store) (moment (counting journal.side store)))
  pub rest : IsSpare journal.generation (images (other journal.side store) (moment (other journal.side store)))

-- from some moment of the call on each image of the device has P
pub record Settles {D : Type 0} (moment : D → ℕ) (images : D → ℕ → List ℕ → Type 0) (old new : D) (P : List ℕ → Type 0) : Type 0 where
  pub settled : ℕ
  pub begun : moment old ≤ settled
  pub within : settled ≤ moment new
  pub each : Each (images new settled) P

-- only what a call that closes or appends may change of a journal
pub record SameJournal (old new : Journal) : Type 0 where
  pub side : new.side ≡ old.side
  pub edition : new.edition ≡ old.edition
  pub generation : new.generation ≡ old.generation
  pub limit : new.limit ≡ old.limit

-- what is in doubt after a call that failed: what was before, nothing, or this batch
abbrev pub MayDoubt : Option (List ℕ) → List ℕ → Option (List ℕ) → Type 0
MayDoubt before payload after = (after ≡ before) ⊎ ((after ≡ None) ⊎ (after ≡ Some payload))

-- A gate in doubt is closed before anything else is written: from the end of its sync on no image has the batch that was
-- in doubt. Or the call failed, and it is still in doubt.
abbrev pub ClosesFirst : {D : Type 0} → (D → ℕ) → (D → ℕ → List ℕ → Type 0) → D → D → Journal → List ℕ → Option (List ℕ) → List ℕ → Result (Unit {0}) AppendFault → Type 0
ClosesFirst moment images old new journal begun doubt payload result =
    Settles moment images old new (IsWithOrWithout begun (record_text Second payload)) ⊎ (IsErr result × Counts journal begun doubt (images new (moment new)))

-- a gate in doubt was closed, or the batch is still in doubt
abbrev pub Closes : Journal → List ℕ → Option (List ℕ) → (List ℕ → Type 0) → Result (Unit {0}) DiskFailed → Type 0
Closes new begun doubt images (Ok done) = Counts new begun None images
Closes new begun doubt images (Err e) = Counts new begun doubt images

-- what an append made of the device that counts
abbrev pub Appends : Journal → Journal → List ℕ → Option (List ℕ) → List ℕ → (List ℕ → Type 0) → Result (Unit {0}) AppendFault → Type 0
Appends old new begun doubt payload images (Ok done) = Counts new (begun ++ 1 ∷ record_text Second payload) None images
Appends old new begun doubt payload images (Err Disk) = (after : Option (List ℕ)) × MayDoubt doubt payload after × Counts new begun after images
Appends old new begun doubt payload images (Err (Full tail asked)) = ⊥
Appends old new begun doubt payload images (Err NoMemory) = ⊥

-- two files, one of the device that counts, read as these batches, or as these and one more
abbrev pub ReadsEither : Journal → List (List ℕ) → List ℕ → List ℕ → List ℕ → Type 0
ReadsEither journal payloads payload file second =
    ReadsAs journal.side file second (found journal.edition journal.generation payloads)
    ⊎ ReadsAs journal.side file second (found journal.edition journal.generation (payloads ++ payload ∷ []))

-- or as these with the batch that was in doubt
abbrev pub MayRead : Journal → List (List ℕ) → Option (List ℕ) → List ℕ → List ℕ → List ℕ → Type 0
MayRead journal payloads None payload file second = ReadsEither journal payloads payload file second
MayRead journal payloads (Some doubted) payload file second =
    ReadsEither journal payloads payload file second
    ⊎ ReadsAs journal.side file second (found journal.edition journal.generation (payloads ++ doubted ∷ []))

-- A crash at any moment of a call leaves two files that read as these batches, or with the new one, or with the one that
-- was in doubt. The other device isn't touched.
pub record AppendCrash {D : Type 0} (moment : D → ℕ) (images : D → ℕ → List ℕ → Type 0) (journal : Journal) (old new : Store D) (payloads : List (List ℕ)) (doubt : Option (List ℕ)) (payload : List ℕ) : Type 0 where
  pub each : (file second : List ℕ) → images (counting journal.side new) (moment (counting journal.side old)) file
      → images (other journal.side new) (moment (other journal.side new)) second → MayRead journal payloads doubt payload file second
  -- for a run that began earlier
  pub before : (t : ℕ) (file second : List ℕ) → t ≤ moment (counting journal.side old) → images (counting journal.side new) t file
      → images (other journal.side new) (moment (other journal.side new)) second → images (counting journal.side old) t file ⊎ MayRead journal payloads doubt payload file second
  pub later : moment (counting journal.side old) ≤ moment (counting journal.side new)
  pub untouched : other journal.side new ≡ other journal.side old

-- A batch in doubt is closed first: from some moment of the call on no image reads with it. Or the call failed, and it is
-- still in doubt.
abbrev pub DoubtClosed : {D : Type 0} → (D → ℕ) → (D → ℕ → List ℕ → Type 0) → Journal → Journal → Store D → Store D → List (List ℕ) → Option (List ℕ) → List ℕ → Result (Unit {0}) AppendFault → Type 0
DoubtClosed moment images journal after old new payloads doubt payload result =
    ((settled : ℕ) × (moment (counting journal.side old) ≤ settled) × (settled ≤ moment (counting journal.side new))
    × ((file second : List ℕ) → images (counting journal.side new) settled file → images (other journal.side new) (moment (other journal.side new)) second
    → ReadsEither journal payloads payload file second))
    ⊎ (IsErr result × Stands moment images after new payloads doubt)

-- what the journal stands for after an append
abbrev pub Appended : {D : Type 0} → (D → ℕ) → (D → ℕ → List ℕ → Type 0) → Journal → Store D → List (List ℕ) → Option (List ℕ) → List ℕ → Result (Unit {0}) AppendFault → Type 0
Appended moment images journal store payloads doubt payload (Ok done) = Stands moment images journal store (payloads ++ payload ∷ []) None
Appended moment images journal store payloads doubt payload (Err Disk) =
    (after : Option (List ℕ)) × MayDoubt doubt payload after × Stands moment images journal store payloads after
Appended moment images journal store payloads doubt payload (Err (Full tail asked)) = Stands moment images journal store payloads doubt
Appended moment images journal store payloads doubt payload (Err NoMemory) = ⊥

-- a record of this payload would pass the limit
abbrev pub PassesLimit : Journal → List ℕ → Type 0
PassesLimit journal payload = journal.limit < journal.tail + (length payload + 37)

-- Full comes exactly there, with its numbers
pub record FullExactly (journal : Journal) (payload : List ℕ) (result : Result (Unit {0}) AppendFault) : Type 0 where
  pub always : PassesLimit journal payload → result ≡ Err (Full journal.tail (length payload + 37))
  pub only : (tail asked : ℕ) → result ≡ Err (Full tail asked) → PassesLimit journal payload
