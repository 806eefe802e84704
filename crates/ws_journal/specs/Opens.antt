-- Opening refuses nothing that the journal's own calls leave (own).
use Rattle.std.specs.Prelude.{◌≡◌, ◌⊎◌, ℕ, List, Option, None, Result, Ok, Err}
use Rattle.ws_journal.specs.declared.store.Edition.TheVariants.{Second}
use Rattle.ws_journal.specs.declared.store.Side.{Side}
use Rattle.ws_journal.specs.declared.store.Side.TheVariants.{A, B}
use Rattle.ws_journal.specs.declared.store.Store.{Store}
use Rattle.ws_journal.specs.declared.store.Batch.{Batch}
use Rattle.ws_journal.specs.declared.store.OpenFault.{OpenFault}
use Rattle.ws_journal.specs.declared.store.OpenFault.TheVariants as Opening
use Rattle.ws_journal.specs.declared.journal.Journal.{Journal}
use Rattle.ws_journal.specs.Image.{IsUnused}
use Rattle.ws_journal.specs.Stands.{counting, other, Stands, AppendCrash}
use Rattle.ws_journal.specs.Replaced.{StandsBeside, BesideCrash, CountingCrash, ReadsOlderOrNewer, ReadsLeft}
use Rattle.ws_journal.specs.Recovered.{Recovers, IsMaking}

-- an answer of opening that is neither Foreign, Damaged nor Altered
abbrev pub IsNoRefusal : Result (Journal × List Batch) OpenFault → Type 0
IsNoRefusal (Ok given) = Unit {0}
IsNoRefusal (Err (Opening.Foreign at)) = ⊥
IsNoRefusal (Err (Opening.Damaged at)) = ⊥
IsNoRefusal (Err (Opening.Altered at kept digest)) = ⊥
IsNoRefusal (Err Opening.Disk) = Unit {0}
IsNoRefusal (Err Opening.NoMemory) = Unit {0}

-- no answer of opening over these two devices is a refusal
abbrev pub IsOpened : List ℕ → List ℕ → Type 0
IsOpened a b = (result : Result (Journal × List Batch) OpenFault) → Recovers a b result → IsNoRefusal result

-- the same of a file of the device that counts with one of the other
abbrev pub IsOpenedOn : Side → List ℕ → List ℕ → Type 0
IsOpenedOn A file second = IsOpened file second
IsOpenedOn B file second = IsOpened second file

-- What a crash may leave is opened: between two calls, during an append, while a gate in doubt is closed, while the other device
-- is made, and while a new store is made.
pub record OwnImagesOpen {D : Type 0} (moment : D → ℕ) (images : D → ℕ → List ℕ → Type 0) : Type 0 where
  pub standing : (journal : Journal) (store : Store D) (payloads : List (List ℕ)) (doubt : Option (List ℕ)) → (journal.edition ≡ Second) ⊎ (doubt ≡ None) → Stands moment images journal store payloads doubt
      → (file second : List ℕ) → images (counting journal.side store) (moment (counting journal.side store)) file → images (other journal.side store) (moment (other journal.side store)) second
      → IsOpenedOn journal.side file second
  pub standing_beside : (journal : Journal) (store : Store D) (payloads newer : List (List ℕ)) → StandsBeside moment images journal store payloads newer
      → (file second : List ℕ) → images (counting journal.side store) (moment (counting journal.side store)) file → images (other journal.side store) (moment (other journal.side store)) second
      → IsOpenedOn journal.side file second
  pub appending : (journal : Journal) (old new : Store D) (payloads : List (List ℕ)) (doubt : Option (List ℕ)) (payload : List ℕ) → AppendCrash moment images journal old new payloads doubt payload
      → (file second : List ℕ) → images (counting journal.side new) (moment (counting journal.side old)) file → images (other journal.side new) (moment (other journal.side new)) second
      → IsOpenedOn journal.side file second
  pub closing : (journal : Journal) (old new : Store D) (payloads : List (List ℕ)) (doubt : Option (List ℕ)) → CountingCrash moment images journal.side old new (ReadsLeft journal payloads doubt)
      → (file second : List ℕ) → images (counting journal.side new) (moment (counting journal.side old)) file → images (other journal.side new) (moment (other journal.side new)) second
      → IsOpenedOn journal.side file second
  pub making : (journal : Journal) (old new : Store D) (payloads newer : List (List ℕ)) → BesideCrash moment images journal.side old new (ReadsOlderOrNewer journal payloads newer)
      → (file second : List ℕ) → images (counting journal.side new) (moment (counting journal.side new)) file → images (other journal.side new) (moment (other journal.side old)) second
      → IsOpenedOn journal.side file second
  pub making_new : (file second : List ℕ) → IsMaking file → IsUnused second → IsOpened file second
