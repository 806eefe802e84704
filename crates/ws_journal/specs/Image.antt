-- What two devices read as (own): a reading of two lists of bytes, with no case for the order of writes.
use Rattle.std.specs.Prelude.{◌≡◌, ◌≢◌, ◌⊎◌, ℕ, ◌<◌, ◌≤◌, ◌+◌, ◌-◌, ◌^◌, List, ◌∷◌, ◌++◌, length, slice_index, take, drop, All}
use Rattle.std.specs.Int.{w32}
use Rattle.sha2.specs.Sha256.{sha256}
use Rattle.ws_record.specs.Text.{number_text}
use Rattle.ws_journal.specs.declared.store.Edition.{Edition}
use Rattle.ws_journal.specs.declared.store.Edition.TheVariants.{First, Second}
use Rattle.ws_journal.specs.Text.{name_text, head_text, records, IsPayload}

-- what two devices read as: no device is used; one counts, of this edition and generation, with these batches' texts;
-- or there is a fault at this place of a device, an altered payload with the kept digest and the one that it has
pub data Reading : Type 0 where
  fresh : Reading
  found : Edition → ℕ → List (List ℕ) → Reading
  foreign : ℕ → Reading
  damaged : ℕ → Reading
  altered : ℕ → List ℕ → List ℕ → Reading

-- bytes 1 to 8 are the text of either edition
abbrev pub IsNamed : List ℕ → Type 0
IsNamed file = (edition : Edition) × (take 8 (drop 1 file) ≡ name_text edition)

-- too short, or its gate is 0, or it is torn: neither 0 nor 1, before a text of either edition
abbrev pub IsUnused : List ℕ → Type 0
IsUnused file =
    (length file < 18) ⊎ ((slice_index file 0 ≡ 0) ⊎ ((slice_index file 0 ≢ 0) × (slice_index file 0 ≢ 1) × IsNamed file))

-- an open device of this edition and generation, with these bytes from the first record's gate on
pub record IsUsed (edition : Edition) (generation : ℕ) (rest : List ℕ) (file : List ℕ) : Type 0 where
  pub is : file ≡ 1 ∷ head_text edition generation ++ rest
  pub fits : generation < 2 ^ 64
  pub gate : 0 < length rest

-- the first generation that a device of this edition can't have
abbrev pub generation_end : Edition → ℕ
generation_end First = 2 ^ 63 - 1
generation_end Second = 2 ^ 63

abbrev pub IsGeneration : Edition → ℕ → Type 0
IsGeneration edition generation = (0 < generation) × (generation < generation_end edition)

-- a device that may count
abbrev pub IsDevice : Edition → ℕ → List ℕ → List ℕ → Type 0
IsDevice edition generation rest file = IsUsed edition generation rest file × IsGeneration edition generation

-- a device that is no journal's, by the first place that shows it
abbrev pub IsForeign : List ℕ → ℕ → Type 0
IsForeign file at =
    ((at ≡ 0) × (18 ≤ length file) × (slice_index file 0 ≢ 0) × (slice_index file 0 ≢ 1) × (IsNamed file → ⊥))
    ⊎ (((at ≡ 1) × (18 ≤ length file) × (slice_index file 0 ≡ 1) × (IsNamed file → ⊥))
    ⊎ ((at ≡ 9) × ((edition : Edition) × (generation : ℕ) × (rest : List ℕ) × IsUsed edition generation rest file × (IsGeneration edition generation → ⊥))))

-- unused, or of a lesser generation
abbrev pub IsBelow : ℕ → List ℕ → Type 0
IsBelow generation file = IsUnused file ⊎ ((edition : Edition) × (lesser : ℕ) × (rest : List ℕ) × IsDevice edition lesser rest file × (lesser < generation))

-- one of the two devices is this one, and the other doesn't count
abbrev pub Counts : Edition → ℕ → List ℕ → List ℕ → List ℕ → Type 0
Counts edition generation rest a b =
    (IsDevice edition generation rest a × IsBelow generation b) ⊎ (IsDevice edition generation rest b × IsBelow generation a)

-- open records of these payloads, each one batch, and then a gate with what follows it
pub record Stand (edition : Edition) (payloads : List (List ℕ)) (gate : ℕ) (after rest : List ℕ) : Type 0 where
  pub is : rest ≡ records edition payloads ++ gate ∷ after
  pub batches : All IsPayload payloads

-- the records end at a gate that isn't open; what follows it isn't looked at
abbrev pub IsFound : Edition → List (List ℕ) → List ℕ → Type 0
IsFound edition payloads rest = (gate : ℕ) × (after : List ℕ) × Stand edition payloads gate after rest × (gate ≢ 1)

-- how many bytes a record has before its payload
abbrev pub digest_len : Edition → ℕ
digest_len First = 0
digest_len Second = 32

-- behind an open gate: the length, the digest, the payload or the next gate passes the end
abbrev pub IsCutShort : Edition → List ℕ → Type 0
IsCutShort edition after =
    (length after < 4) ⊎ ((len : ℕ) × (len < 2 ^ 32) × (take 4 after ≡ number_text w32 len) × (length after < 4 + digest_len edition + len + 1))

-- behind an open gate: a whole record with this kept digest, and a next gate
abbrev pub IsWhole : Edition → List ℕ → List ℕ → List ℕ → Type 0
IsWhole edition kept payload after =
    (length payload < 2 ^ 32) × (length kept ≡ digest_len edition)
    × ((next : List ℕ) × (0 < length next) × (after ≡ number_text w32 (length payload) ++ kept ++ payload ++ next))

-- the digest is the payload's, where the edition keeps one
abbrev pub IsKept : Edition → List ℕ → List ℕ → Type 0
IsKept First kept payload = Unit {0}
IsKept Second kept payload = kept ≡ sha256 payload

abbrev pub IsDamaged : Edition → List ℕ → ℕ → Type 0
IsDamaged edition rest at =
    (payloads : List (List ℕ)) × (after : List ℕ) × Stand edition payloads 1 after rest × (at ≡ 17 + length (records edition payloads))
    × (IsCutShort edition after ⊎ ((kept : List ℕ) × (payload : List ℕ) × IsWhole edition kept payload after × IsKept edition kept payload × (IsPayload payload → ⊥)))

abbrev pub IsAltered : Edition → List ℕ → ℕ → List ℕ → List ℕ → Type 0
IsAltered First rest at kept digest = ⊥
IsAltered Second rest at kept digest =
    (payloads : List (List ℕ)) × (after : List ℕ) × Stand Second payloads 1 after rest × (at ≡ 17 + length (records Second payloads))
    × ((payload : List ℕ) × IsWhole Second kept payload after × (digest ≡ sha256 payload) × (kept ≢ digest))

-- What a and b read as. Device a is read before b, and what is foreign goes before what is damaged or altered.
abbrev pub Reads : List ℕ → List ℕ → Reading → Type 0
Reads a b fresh = IsUnused a × IsUnused b
Reads a b (found edition generation payloads) = (rest : List ℕ) × Counts edition generation rest a b × IsFound edition payloads rest
Reads a b (foreign at) =
    IsForeign a at
    ⊎ (((n : ℕ) × IsBelow n a × IsForeign b at)
    ⊎ ((at ≡ 9) × ((edition other : Edition) × (generation : ℕ) × (rest more : List ℕ) × IsDevice edition generation rest a × IsDevice other generation more b)))
Reads a b (damaged at) =
    (edition : Edition) × (generation : ℕ) × (rest : List ℕ) × Counts edition generation rest a b × IsDamaged edition rest at
Reads a b (altered at kept digest) =
    (edition : Edition) × (generation : ℕ) × (rest : List ℕ) × Counts edition generation rest a b × IsAltered edition rest at kept digest
