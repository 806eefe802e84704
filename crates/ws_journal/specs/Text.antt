-- The texts on a journal's device (own): numbers are unsigned and big-endian.
use Rattle.std.specs.Prelude.{map, ◌≡◌, ℕ, ◌<◌, ◌^◌, List, [], ◌∷◌, ◌++◌, length}
use Rattle.std.specs.Int.{w32, w64}
use Rattle.sha2.specs.Sha256.{sha256}
use Rattle.ws_model.specs.declared.event.Event.{Event}
use Rattle.ws_record.specs.Text.{number_text}
use Rattle.ws_record.specs.Batch.{batch_text, IsBatch}
use Rattle.ws_journal.specs.declared.store.Batch.{Batch}
use Rattle.ws_journal.specs.declared.store.Edition.{Edition}
use Rattle.ws_journal.specs.declared.store.Edition.TheVariants.{First, Second}

-- `WEBSUBJ1` in edition 1, and `WEBSUBJ2` in edition 2
abbrev pub name_text : Edition → List ℕ
name_text First = 87 ∷ 69 ∷ 66 ∷ 83 ∷ 85 ∷ 66 ∷ 74 ∷ 49 ∷ []
name_text Second = 87 ∷ 69 ∷ 66 ∷ 83 ∷ 85 ∷ 66 ∷ 74 ∷ 50 ∷ []

-- what stands behind a device's gate and before the first record's
abbrev pub head_text : Edition → ℕ → List ℕ
head_text edition generation = name_text edition ++ number_text w64 generation

-- The digest of a payload, which edition 2 keeps: SHA-256 (FIPS 180-4).
abbrev pub digest_text : Edition → List ℕ → List ℕ
digest_text First payload = []
digest_text Second payload = sha256 payload

-- what stands behind a record's gate and before the next one
unfoldable pub record_text : Edition → List ℕ → List ℕ
record_text edition payload = number_text w32 (length payload) ++ digest_text edition payload ++ payload

-- open records of these payloads
abbrev pub records : Edition → List (List ℕ) → List ℕ
records edition [] = []
records edition (payload ∷ payloads) = 1 ∷ record_text edition payload ++ records edition payloads

-- a device up to its last gate: its own gate, which is open, its head, and open records of these payloads
unfoldable pub front : Edition → ℕ → List (List ℕ) → List ℕ
front edition generation payloads = 1 ∷ head_text edition generation ++ records edition payloads

-- a payload is the text of one batch, whose length fits 4 bytes
pub record IsPayload (payload : List ℕ) : Type 0 where
  pub events : List Event
  pub batch : IsBatch events
  pub text : payload ≡ batch_text events
  pub short : length payload < 2 ^ 32

-- a batch as a record holds one
pub record IsRecorded (batch : Batch) : Type 0 where
  pub events : IsBatch batch.events
  pub short : length (batch_text batch.events) < 2 ^ 32

-- the texts of batches
abbrev pub texts : List Batch → List (List ℕ)
texts batches = map (λ batch. batch_text batch.events) batches
