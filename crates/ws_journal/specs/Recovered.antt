-- What the opening of a store gives (own).
use Rattle.std.specs.Prelude.{Vec, ◌≡◌, ◌⊎◌, ℕ, ◌≤◌, List, [], length, Option, Some, None, Result, Ok, Err}
use Rattle.std.specs.Global.{Global}
use Rattle.ws_model.specs.Cause.{Rose}
use Rattle.ws_disk.specs.Crash.{Only, LeavesOnly}
use Rattle.ws_journal.specs.declared.store.Edition.{Edition}
use Rattle.ws_journal.specs.declared.store.Edition.TheVariants.{Second}
use Rattle.ws_journal.specs.declared.store.Side.{Side}
use Rattle.ws_journal.specs.declared.store.Side.TheVariants.{A, B}
use Rattle.ws_journal.specs.declared.store.Store.{Store}
use Rattle.ws_journal.specs.declared.store.Batch.{Batch}
use Rattle.ws_journal.specs.declared.store.OpenFault.{OpenFault}
use Rattle.ws_journal.specs.declared.store.OpenFault.TheVariants as Opening
use Rattle.ws_journal.specs.declared.journal.Journal.{Journal}
use Rattle.ws_journal.specs.declared.choose.Counting.{Counting}
use Rattle.ws_journal.specs.Text.{front, texts}
use Rattle.ws_journal.specs.Image.{fresh, found, foreign, damaged, altered, Reads, IsUnused, IsDevice, IsBelow}
use Rattle.ws_journal.specs.Kept.{IsShut}
use Rattle.ws_journal.specs.Stands.{Stands, counting}
use Rattle.ws_journal.specs.Device.{AreBatches}

-- a device of this edition and generation is on this side, and the other one doesn't count
abbrev pub CountsOn : Side → Edition → ℕ → List ℕ → List ℕ → List ℕ → Type 0
CountsOn A edition generation rest a b = IsDevice edition generation rest a × IsBelow generation b
CountsOn B edition generation rest a b = IsDevice edition generation rest b × IsBelow generation a

-- which of two devices counts, or the place at which one is foreign
abbrev pub Chooses : List ℕ → List ℕ → Result (Option Counting) OpenFault → Type 0
Chooses a b (Ok None) = IsUnused a × IsUnused b
Chooses a b (Ok (Some counting)) = (rest : List ℕ) × CountsOn counting.side counting.edition counting.generation rest a b
Chooses a b (Err (Opening.Foreign at)) = Reads a b (foreign at)
Chooses a b (Err (Opening.Damaged at)) = ⊥
Chooses a b (Err (Opening.Altered at kept digest)) = ⊥
Chooses a b (Err Opening.Disk) = Unit {0}
Chooses a b (Err Opening.NoMemory) = ⊥

-- a journal and its batches as a plain list
abbrev pub opened : Result (Journal × Vec Batch Global) OpenFault → Result (Journal × List Batch) OpenFault
opened (Ok (journal, batches)) = Ok (journal, batches.items)
opened (Err fault) = Err fault

-- two files read as the batches that were given
abbrev pub ReadsGiven : List ℕ → List ℕ → Journal → List Batch → Type 0
ReadsGiven a b journal batches =
    Reads a b (found journal.edition journal.generation (texts batches)) × AreBatches journal.edition 17 (texts batches) batches

-- a journal of edition 2 and generation 1 without batches
abbrev pub IsNew : Journal → List Batch → Type 0
IsNew journal batches = (journal.edition ≡ Second) × (journal.generation ≡ 1) × (batches ≡ [])

-- What was given is what two files read as, or its fault. Where no device is used it is a new journal.
abbrev pub Recovers : List ℕ → List ℕ → Result (Journal × List Batch) OpenFault → Type 0
Recovers a b (Ok (journal, batches)) = ReadsGiven a b journal batches ⊎ (Reads a b fresh × IsNew journal batches)
Recovers a b (Err (Opening.Foreign at)) = Reads a b (foreign at)
Recovers a b (Err (Opening.Damaged at)) = Reads a b (damaged at)
Recovers a b (Err (Opening.Altered at kept digest)) = Reads a b (altered at kept digest)
Recovers a b (Err Opening.Disk) = Unit {0}
Recovers a b (Err Opening.NoMemory) = Unit {0}

-- two files that a crash may leave from then on read as what was given
abbrev pub StillReads : List ℕ → List ℕ → Result (Journal × List Batch) OpenFault → Type 0
StillReads a b (Ok (journal, batches)) = ReadsGiven a b journal batches
StillReads a b (Err (Opening.Foreign at)) = Reads a b (foreign at)
StillReads a b (Err (Opening.Damaged at)) = Reads a b (damaged at)
StillReads a b (Err (Opening.Altered at kept digest)) = Reads a b (altered at kept digest)
StillReads a b (Err Opening.Disk) = Unit {0}
StillReads a b (Err Opening.NoMemory) = Unit {0}

-- the journal stands for the batches that were given, with none in doubt
abbrev pub StandsGiven : {D : Type 0} → (D → ℕ) → (D → ℕ → List ℕ → Type 0) → Store D → Result (Journal × List Batch) OpenFault → Type 0
StandsGiven moment images store (Ok (journal, batches)) =
    Stands moment images journal store (texts batches) None × AreBatches journal.edition 17 (texts batches) batches
StandsGiven moment images store (Err fault) = Unit {0}

-- the tail that was read lies within the device of that side, where it is honest
abbrev pub EndsWithin : {D : Type 0} → (D → Type 0) → (D → List ℕ) → Side → Store D → ℕ → Type 0
EndsWithin honest seen side store tail = honest (counting side store) → tail ≤ length (seen (counting side store))

-- a crash leaves what a read gives, and nothing else
abbrev pub Confirmed : {D : Type 0} → (D → List ℕ) → (D → ℕ) → (D → ℕ → List ℕ → Type 0) → D → Type 0
Confirmed seen moment images disk = Only (seen disk) (images disk (moment disk))

-- the count of one of two devices rose
abbrev pub RoseEither : {D : Type 0} → (D → ℕ) → Store D → Store D → Type 0
RoseEither faults old new = Rose (faults old.a) (faults new.a) ⊎ Rose (faults old.b) (faults new.b)

-- the images of a device that is made new: unused still, or of edition 2 and generation 1 without batches
abbrev pub IsMaking : List ℕ → Type 0
IsMaking image = IsUnused image ⊎ IsShut (front Second 1 []) image

-- A crash at any moment leaves what one at entry might have left; or, where no device was used, one that is being made.
pub record RecoverCrash {D : Type 0} (seen : D → List ℕ) (moment : D → ℕ) (images : D → ℕ → List ℕ → Type 0) (old new : Store D) : Type 0 where
  pub first : LeavesOnly moment images old.a new.a (λ image. images old.a (moment old.a) image ⊎ (Reads (seen old.a) (seen old.b) fresh × IsMaking image))
  pub second : LeavesOnly moment images old.b new.b (images old.b (moment old.b))
