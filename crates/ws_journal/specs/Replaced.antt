-- What a replacement of a journal's batches leaves of its two devices (own).
use Rattle.std.specs.Prelude.{◌≡◌, ◌⊎◌, ℕ, ◌<◌, ◌≤◌, ◌+◌, ◌-◌, ◌^◌, List, [], ◌∷◌, ◌++◌, length, Option, Some, None, All, Bool, true, false, Result, Ok, Err, IsErr}
use Rattle.std.specs.List.{sum_by}
use Rattle.ws_record.specs.Text.{capped}
use Rattle.ws_journal.specs.declared.store.Edition.TheVariants.{Second}
use Rattle.ws_journal.specs.declared.store.Side.{Side}
use Rattle.ws_journal.specs.declared.store.Store.{Store}
use Rattle.ws_journal.specs.declared.store.AppendFault.{AppendFault}
use Rattle.ws_journal.specs.declared.store.AppendFault.TheVariants.{Full}
use Rattle.ws_disk.specs.declared.disk.DiskFailed.{DiskFailed}
use Rattle.ws_journal.specs.declared.journal.Journal.{Journal}
use Rattle.ws_journal.specs.declared.journal.Doubt.TheVariants.{Device}
use Rattle.ws_journal.specs.Text.{front, IsPayload}
use Rattle.ws_journal.specs.Image.{found, IsGeneration}
use Rattle.ws_journal.specs.Kept.{IsShut, Each}
use Rattle.ws_journal.specs.Made.{IsHalfMade}
use Rattle.ws_journal.specs.Stands.{counting, other, ReadsAs, Stands, SameJournal, AppendCrash, Appended}

-- The journal stands for the batches of these texts, and the gate of the other device is in doubt: that one is of the next
-- generation, and has newer batches.
pub record StandsBeside {D : Type 0} (moment : D → ℕ) (images : D → ℕ → List ℕ → Type 0) (journal : Journal) (store : Store D) (payloads newer : List (List ℕ)) : Type 0 where
  pub generation : IsGeneration journal.edition journal.generation
  pub next : journal.generation < 2 ^ 63 - 1
  pub batches : All IsPayload payloads
  pub doubted : All IsPayload newer
  pub tail : journal.tail ≡ length (front journal.edition journal.generation payloads) + 1
  pub device : Each (images (counting journal.side store) (moment (counting journal.side store))) (IsShut (front journal.edition journal.generation payloads))
  pub known : journal.doubt ≡ Device
  pub beside : Each (images (other journal.side store) (moment (other journal.side store))) (IsHalfMade (journal.generation + 1) newer)

-- A crash at any moment of a run of calls of the other device leaves two files that read so. The device that counts isn't
-- touched.
pub record BesideCrash {D : Type 0} (moment : D → ℕ) (images : D → ℕ → List ℕ → Type 0) (side : Side) (old new : Store D) (R : List ℕ → List ℕ → Type 0) : Type 0 where
  pub each : (file second : List ℕ) → images (counting side new) (moment (counting side new)) file
      → images (other side new) (moment (other side old)) second → R file second
  -- for a run that began earlier
  pub before : (t : ℕ) (file second : List ℕ) → t ≤ moment (other side old) → images (counting side new) (moment (counting side new)) file
      → images (other side new) t second → images (other side old) t second ⊎ R file second
  pub later : moment (other side old) ≤ moment (other side new)
  pub untouched : counting side new ≡ counting side old

-- the same of the device that counts
pub record CountingCrash {D : Type 0} (moment : D → ℕ) (images : D → ℕ → List ℕ → Type 0) (side : Side) (old new : Store D) (R : List ℕ → List ℕ → Type 0) : Type 0 where
  pub each : (file second : List ℕ) → images (counting side new) (moment (counting side old)) file
      → images (other side new) (moment (other side new)) second → R file second
  -- for a run that began earlier
  pub before : (t : ℕ) (file second : List ℕ) → t ≤ moment (counting side old) → images (counting side new) t file
      → images (other side new) (moment (other side new)) second → images (counting side old) t file ⊎ R file second
  pub later : moment (counting side old) ≤ moment (counting side new)
  pub untouched : other side new ≡ other side old

-- two files, one of the device that counts, read as these batches, or as the newer ones of the next generation
abbrev pub ReadsOlderOrNewer : Journal → List (List ℕ) → List (List ℕ) → List ℕ → List ℕ → Type 0
ReadsOlderOrNewer journal payloads newer file second =
    ReadsAs journal.side file second (found journal.edition journal.generation payloads)
    ⊎ ReadsAs journal.side file second (found Second (journal.generation + 1) newer)

-- or as these batches, or with the one that was in doubt
abbrev pub ReadsLeft : Journal → List (List ℕ) → Option (List ℕ) → List ℕ → List ℕ → Type 0
ReadsLeft journal payloads None file second = ReadsAs journal.side file second (found journal.edition journal.generation payloads)
ReadsLeft journal payloads (Some doubted) file second =
    ReadsAs journal.side file second (found journal.edition journal.generation payloads)
    ⊎ ReadsAs journal.side file second (found journal.edition journal.generation (payloads ++ doubted ∷ []))

-- what the journal stands for once a batch in doubt was to be closed
abbrev pub ClosedBatch : {D : Type 0} → (D → ℕ) → (D → ℕ → List ℕ → Type 0) → Journal → Store D → List (List ℕ) → Option (List ℕ) → Result (Unit {0}) DiskFailed → Type 0
ClosedBatch moment images journal store payloads doubt (Ok done) = Stands moment images journal store payloads None
ClosedBatch moment images journal store payloads doubt (Err e) = Stands moment images journal store payloads doubt

-- and once a device in doubt was to be closed
abbrev pub ClosedDevice : {D : Type 0} → (D → ℕ) → (D → ℕ → List ℕ → Type 0) → Journal → Store D → List (List ℕ) → List (List ℕ) → Result (Unit {0}) DiskFailed → Type 0
ClosedDevice moment images journal store payloads newer (Ok done) = Stands moment images journal store payloads None
ClosedDevice moment images journal store payloads newer (Err e) = StandsBeside moment images journal store payloads newer

-- the journal of this generation, whose device this one is
pub record IsNext (side : Side) (generation tail : ℕ) (old new : Journal) : Type 0 where
  pub counts : new.side ≡ side
  pub edition : new.edition ≡ Second
  pub numbered : new.generation ≡ generation
  pub ends : new.tail ≡ tail
  pub limit : new.limit ≡ old.limit
  pub doubt : new.doubt ≡ old.doubt

-- the journal before, which knows the other device to be in doubt
pub record KnowsDevice (old new : Journal) : Type 0 where
  pub same : SameJournal old new
  pub ends : new.tail ≡ old.tail
  pub doubt : new.doubt ≡ Device

-- What the journal stands for after a replacement that was done: for the newer batches, in the next generation. Else for those
-- before, with the newer ones in doubt or not.
abbrev pub Replaced : {D : Type 0} → (D → ℕ) → (D → ℕ → List ℕ → Type 0) → Journal → Journal → Store D → List (List ℕ) → List (List ℕ) → Bool → Type 0
Replaced moment images journal after store payloads newer true =
    (after.edition ≡ Second) × (after.generation ≡ journal.generation + 1) × Stands moment images after store newer None
Replaced moment images journal after store payloads newer false =
    Stands moment images after store payloads None ⊎ StandsBeside moment images after store payloads newer

-- What was in doubt is closed first, and then the other device is made the next generation: a crash in between leaves the
-- batches before, and one while it is made leaves those or the newer ones.
pub record ReplacesClosed {D : Type 0} (moment : D → ℕ) (images : D → ℕ → List ℕ → Type 0) (Closing : Store D → Type 0) (journal after : Journal) (new : Store D) (payloads newer : List (List ℕ)) (done : Bool) : Type 0 where
  pub closed : Journal
  pub between : Store D
  pub same : SameJournal journal closed
  pub closing : Closing between
  pub stands : Stands moment images closed between payloads None
  pub making : BesideCrash moment images closed.side between new (ReadsOlderOrNewer closed payloads newer)
  pub replaced : Replaced moment images closed after new payloads newer done

-- A replacement of these batches by newer ones, beside a batch in doubt or none. Or the call failed, and the batch is still in
-- doubt.
abbrev pub Replaces : {D : Type 0} → (D → ℕ) → (D → ℕ → List ℕ → Type 0) → Journal → Journal → Store D → Store D → List (List ℕ) → Option (List ℕ) → List (List ℕ) → Bool → Type 0
Replaces moment images journal after old new payloads doubt newer done =
    ReplacesClosed moment images (λ between. CountingCrash moment images journal.side old between (ReadsLeft journal payloads doubt)) journal after new payloads newer done
    ⊎ ((done ≡ false) × CountingCrash moment images journal.side old new (ReadsLeft journal payloads doubt) × Stands moment images after new payloads doubt)

-- the same beside a device in doubt, which has doubted batches
abbrev pub ReplacesBeside : {D : Type 0} → (D → ℕ) → (D → ℕ → List ℕ → Type 0) → Journal → Journal → Store D → Store D → List (List ℕ) → List (List ℕ) → List (List ℕ) → Bool → Type 0
ReplacesBeside moment images journal after old new payloads doubted newer done =
    ReplacesClosed moment images (λ between. BesideCrash moment images journal.side old between (ReadsOlderOrNewer journal payloads doubted)) journal after new payloads newer done
    ⊎ ((done ≡ false) × BesideCrash moment images journal.side old new (ReadsOlderOrNewer journal payloads doubted) × StandsBeside moment images after new payloads doubted)

-- what the records of these batches come to: each has 37 bytes beside its payload
abbrev pub records_len : List (List ℕ) → ℕ
records_len payloads = sum_by (λ payload. length payload + 37) payloads

-- No generation is left. A journal that stands is of no greater one than 2 ^ 63 - 1.
abbrev pub IsLast : Journal → Type 0
IsLast journal = 2 ^ 63 - 1 ≤ journal.generation

-- a device with these batches would pass the limit
abbrev pub PassesWith : Journal → List (List ℕ) → Type 0
PassesWith journal payloads = journal.limit < 18 + records_len payloads

-- Full comes exactly there, with its numbers
pub record ReplaceFull (journal : Journal) (payloads : List (List ℕ)) (result : Result (Unit {0}) AppendFault) : Type 0 where
  pub last : IsLast journal → result ≡ Err (Full (2 ^ 63 - 1) 1)
  pub past : (IsLast journal → ⊥) → PassesWith journal payloads → result ≡ Err (Full 18 (capped (records_len payloads)))
  pub only : (tail asked : ℕ) → result ≡ Err (Full tail asked) → IsLast journal ⊎ PassesWith journal payloads

-- An append beside a device in doubt: its gate is closed first, and then it is an append beside no doubt.
pub record AppendsClosed {D : Type 0} (moment : D → ℕ) (images : D → ℕ → List ℕ → Type 0) (journal after : Journal) (old new : Store D) (payloads newer : List (List ℕ)) (payload : List ℕ) (result : Result (Unit {0}) AppendFault) : Type 0 where
  pub closed : Journal
  pub between : Store D
  pub same : SameJournal journal closed
  pub closing : BesideCrash moment images journal.side old between (ReadsOlderOrNewer journal payloads newer)
  pub stands : Stands moment images closed between payloads None
  pub appending : AppendCrash moment images closed between new payloads None payload
  pub appended : Appended moment images after new payloads None payload result

-- or the call failed, and it is still in doubt
abbrev pub AppendsBeside : {D : Type 0} → (D → ℕ) → (D → ℕ → List ℕ → Type 0) → Journal → Journal → Store D → Store D → List (List ℕ) → List (List ℕ) → List ℕ → Result (Unit {0}) AppendFault → Type 0
AppendsBeside moment images journal after old new payloads newer payload result =
    AppendsClosed moment images journal after old new payloads newer payload result
    ⊎ (IsErr result × BesideCrash moment images journal.side old new (ReadsOlderOrNewer journal payloads newer) × StandsBeside moment images after new payloads newer)
