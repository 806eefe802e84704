-- What one device is, and what stands at one gate of it (own).
use Rattle.std.specs.Prelude.{Vec, ◌≡◌, ◌≢◌, ◌⊎◌, ℕ, ◌<◌, ◌+◌, ◌^◌, List, [], ◌∷◌, ◌++◌, length, drop, Option, Some, None, Result, Ok, Err}
use Rattle.std.specs.Global.{Global}
use Rattle.std.specs.Int.{w32, w64}
use Rattle.sha2.specs.Sha256.{sha256}
use Rattle.ws_model.specs.declared.event.Event.{Event}
use Rattle.ws_record.specs.Text.{number_text}
use Rattle.ws_journal.specs.declared.store.Edition.{Edition}
use Rattle.ws_journal.specs.declared.store.Edition.TheVariants.{First, Second}
use Rattle.ws_journal.specs.declared.store.OpenFault.{OpenFault}
use Rattle.ws_journal.specs.declared.store.OpenFault.TheVariants as Opening
use Rattle.ws_journal.specs.declared.store.ReadBack.{ReadBack}
use Rattle.ws_journal.specs.declared.store.ReadBack.TheVariants as Reading
use Rattle.ws_journal.specs.declared.head.Head.{Head}
use Rattle.ws_journal.specs.declared.head.Head.TheVariants.{Unused, Foreign, Used}
use Rattle.ws_journal.specs.declared.scan.Start.{Start}
use Rattle.ws_journal.specs.declared.scan.Start.TheVariants.{Shut, Short, Open}
use Rattle.ws_journal.specs.declared.scan.Whole.{Whole}
use Rattle.ws_record.specs.Batch.{IsBatch, batch_text}
use Rattle.ws_journal.specs.declared.scan.Record.{Record}
use Rattle.ws_journal.specs.declared.store.Batch.{Batch}
use Rattle.ws_journal.specs.Text.{record_text, records, IsPayload, texts}
use Rattle.ws_journal.specs.Image.{IsFound, IsDamaged, IsAltered, IsWhole, IsKept, IsUnused, IsForeign, IsDevice, IsCutShort, digest_len}

abbrev pub as_open : ReadBack → OpenFault
as_open Reading.Disk = Opening.Disk
as_open Reading.NoMemory = Opening.NoMemory

-- a device is unused, foreign at this place, or a used one
abbrev pub IsHead : List ℕ → Head → Type 0
IsHead file Unused = IsUnused file
IsHead file (Foreign at) = IsForeign file at
IsHead file (Used edition generation) = (rest : List ℕ) × IsDevice edition generation rest file

-- the parts of a device that is long enough to be used
pub record HasParts (gate : ℕ) (name : List ℕ) (generation : ℕ) (file : List ℕ) : Type 0 where
  pub rest : List ℕ
  pub some : 0 < length rest
  pub is : file ≡ gate ∷ (name ++ (number_text w64 generation ++ rest))
  pub eight : length name ≡ 8
  pub fits : generation < 2 ^ 64

-- the digest that a record keeps, where its edition keeps one
abbrev pub kept_text : Option (List ℕ) → List ℕ
kept_text None = []
kept_text (Some digest) = digest

-- a digest is kept in edition 2 alone
abbrev pub KeepsOne : Edition → Option (List ℕ) → Type 0
KeepsOne First None = Unit {0}
KeepsOne First (Some digest) = ⊥
KeepsOne Second None = ⊥
KeepsOne Second (Some digest) = length digest ≡ 32

-- behind an open gate, what is cut short
abbrev pub StandsShort : Edition → List ℕ → Type 0
StandsShort edition left = (after : List ℕ) × (left ≡ 1 ∷ after) × IsCutShort edition after

-- a gate that isn't open
abbrev pub StandsShut : List ℕ → Type 0
StandsShut left = (gate : ℕ) × (after : List ℕ) × (left ≡ gate ∷ after) × (gate ≢ 1)

-- an open gate, the length of a payload and the digest that is kept of it, and then this
pub record StandsOpen (edition : Edition) (len : ℕ) (kept : Option (List ℕ)) (after left : List ℕ) : Type 0 where
  pub is : left ≡ 1 ∷ (number_text w32 len ++ (kept_text kept ++ after))
  pub short : len < 2 ^ 32
  pub digest : KeepsOne edition kept

-- what stands at a record's gate
abbrev pub IsStart : Edition → List ℕ → Start → Type 0
IsStart edition left Shut = StandsShut left
IsStart edition left Short = StandsShort edition left
IsStart edition left (Open len kept) = (after : List ℕ) × StandsOpen edition len kept after left

-- An open record as it was found: its payload stands there whole, with a next gate behind it. Or it is cut short.
abbrev pub FindsWhole : Edition → ℕ → List ℕ → Result (Option Whole) OpenFault → Type 0
FindsWhole edition at file (Ok None) = StandsShut (drop at file)
FindsWhole edition at file (Ok (Some whole)) =
    StandsOpen edition (length whole.payload.items) whole.kept (whole.payload.items ++ drop whole.next file) (drop at file)
    × (whole.next ≡ at + 5 + digest_len edition + length whole.payload.items)
FindsWhole edition at file (Err (Opening.Damaged place)) = (place ≡ at) × StandsShort edition (drop at file)
FindsWhole edition at file (Err (Opening.Foreign place)) = ⊥
FindsWhole edition at file (Err (Opening.Altered place kept found)) = ⊥
FindsWhole edition at file (Err Opening.Disk) = Unit {0}
FindsWhole edition at file (Err Opening.NoMemory) = Unit {0}

-- the digest that is kept, where one is, is the payload's
abbrev pub KeepsDigest : Option (List ℕ) → List ℕ → Type 0
KeepsDigest None payload = Unit {0}
KeepsDigest (Some kept) payload = kept ≡ sha256 payload

abbrev pub IsNoBatch : List ℕ → Type 0
IsNoBatch payload = (events : List Event) → IsBatch events → payload ≡ batch_text events → ⊥

abbrev pub ChecksDigest : ℕ → Option (List ℕ) → List ℕ → Result (Unit {0}) OpenFault → Type 0
ChecksDigest at kept payload (Ok done) = KeepsDigest kept payload
ChecksDigest at kept payload (Err (Opening.Altered place digest found)) = (place ≡ at) × (kept ≡ Some digest) × (found ≡ sha256 payload) × (digest ≢ found)
ChecksDigest at kept payload (Err (Opening.Damaged place)) = ⊥
ChecksDigest at kept payload (Err (Opening.Foreign place)) = ⊥
ChecksDigest at kept payload (Err Opening.Disk) = ⊥
ChecksDigest at kept payload (Err Opening.NoMemory) = ⊥

-- a payload beside the digest that is kept of it: the batch whose text it is, or the fault of the record at this place
abbrev pub Checks : ℕ → Option (List ℕ) → List ℕ → Result (List Event) OpenFault → Type 0
Checks at kept payload (Ok events) = KeepsDigest kept payload × IsBatch events × (payload ≡ batch_text events)
Checks at kept payload (Err (Opening.Damaged place)) = (place ≡ at) × KeepsDigest kept payload × IsNoBatch payload
Checks at kept payload (Err (Opening.Altered place digest found)) = (place ≡ at) × (kept ≡ Some digest) × (found ≡ sha256 payload) × (digest ≢ found)
Checks at kept payload (Err (Opening.Foreign place)) = ⊥
Checks at kept payload (Err Opening.Disk) = ⊥
Checks at kept payload (Err Opening.NoMemory) = Unit {0}

-- an open record of this batch, with the next gate at this place
pub record IsRecordAt (edition : Edition) (at next : ℕ) (events : List Event) (file : List ℕ) : Type 0 where
  pub payload : List ℕ
  pub is : drop at file ≡ 1 ∷ (record_text edition payload ++ drop next file)
  pub batch : IsPayload payload
  pub text : payload ≡ batch_text events
  pub place : next ≡ at + length (1 ∷ record_text edition payload)

-- behind an open gate, a whole record whose payload is no batch
abbrev pub StandsNoBatch : Edition → List ℕ → Type 0
StandsNoBatch edition left =
    (after : List ℕ) × (left ≡ 1 ∷ after) × ((kept : List ℕ) × (payload : List ℕ) × IsWhole edition kept payload after × IsKept edition kept payload × (IsPayload payload → ⊥))

-- behind an open gate, a whole record whose payload has another digest than the one that is kept
abbrev pub StandsAltered : Edition → List ℕ → List ℕ → List ℕ → Type 0
StandsAltered First kept found left = ⊥
StandsAltered Second kept found left =
    (after : List ℕ) × (left ≡ 1 ∷ after) × ((payload : List ℕ) × IsWhole Second kept payload after × (found ≡ sha256 payload) × (kept ≢ found))

-- what stands at a gate: none that is open, a record, or its fault
abbrev pub FindsRecord : Edition → ℕ → List ℕ → Result (Option Record) OpenFault → Type 0
FindsRecord edition at file (Ok None) = StandsShut (drop at file)
FindsRecord edition at file (Ok (Some one)) = IsRecordAt edition at one.next one.events file
FindsRecord edition at file (Err (Opening.Damaged place)) = (place ≡ at) × (StandsShort edition (drop at file) ⊎ StandsNoBatch edition (drop at file))
FindsRecord edition at file (Err (Opening.Altered place kept found)) = (place ≡ at) × StandsAltered edition kept found (drop at file)
FindsRecord edition at file (Err (Opening.Foreign place)) = ⊥
FindsRecord edition at file (Err Opening.Disk) = Unit {0}
FindsRecord edition at file (Err Opening.NoMemory) = Unit {0}

-- batches of these texts, each with the place of its record's gate, the first one's at this place
abbrev pub AreBatches : Edition → ℕ → List (List ℕ) → List Batch → Type 0
AreBatches edition at [] [] = Unit {0}
AreBatches edition at [] (batch ∷ batches) = ⊥
AreBatches edition at (payload ∷ payloads) [] = ⊥
AreBatches edition at (payload ∷ payloads) (batch ∷ batches) =
    (batch.at ≡ at) × (payload ≡ batch_text batch.events) × AreBatches edition (at + length (1 ∷ record_text edition payload)) payloads batches

-- what was read, with its batches as a plain list
abbrev pub as_lists : Result (Vec Batch Global × ℕ) OpenFault → Result (List Batch × ℕ) OpenFault
as_lists (Ok (batches, tail)) = Ok (batches.items, tail)
as_lists (Err fault) = Err fault

-- the records of a device from the first gate on: its batches and its tail, or the first fault
abbrev pub FindsRecords : Edition → List ℕ → Result (List Batch × ℕ) OpenFault → Type 0
FindsRecords edition rest (Ok (batches, tail)) =
    IsFound edition (texts batches) rest × AreBatches edition 17 (texts batches) batches × (tail ≡ 18 + length (records edition (texts batches)))
FindsRecords edition rest (Err (Opening.Damaged place)) = IsDamaged edition rest place
FindsRecords edition rest (Err (Opening.Altered place kept found)) = IsAltered edition rest place kept found
FindsRecords edition rest (Err (Opening.Foreign place)) = ⊥
FindsRecords edition rest (Err Opening.Disk) = Unit {0}
FindsRecords edition rest (Err Opening.NoMemory) = Unit {0}
