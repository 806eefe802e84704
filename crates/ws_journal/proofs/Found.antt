-- What was read at one gate, and so far.
use Rattle.std.proofs.Common.{◌≡◌, ◌≢◌, ◌⊎◌, inl, inr, ℕ, ◌+◌, ◌<◌, List, [], ◌∷◌, ◌++◌, length, drop, refl, sym, ◌∙◌, ap, subst, arith, append_assoc, length-append, length-drop, Option, Some, None, Ok, Err}
use Rattle.std.specs.Prelude.{All}
use Rattle.std.specs.Int.{w32}
use Rattle.std.proofs.lemmas.List.Elements.{All-nil, All-push}
use Rattle.sha2.specs.Sha256.{sha256}
use Rattle.ws_model.specs.declared.event.Event.{Event}
use Rattle.ws_record.specs.Text.{number_text}
use Rattle.ws_record.specs.Batch.{IsBatch, batch_text}
use Rattle.ws_journal.specs.declared.store.Edition.{Edition}
use Rattle.ws_journal.specs.declared.store.Edition.TheVariants.{First, Second}
use Rattle.ws_journal.specs.declared.store.OpenFault.{OpenFault}
use Rattle.ws_journal.specs.declared.store.OpenFault.TheVariants as Opening
use Rattle.ws_journal.specs.declared.store.Batch.{Batch}
use Rattle.ws_journal.specs.Text.{digest_text, record_text, records, IsPayload, texts}
use Rattle.ws_journal.specs.Image.{Stand, IsFound, digest_len, IsDamaged, IsAltered, IsWhole, IsKept}
use Rattle.ws_journal.specs.Device.{kept_text, KeepsOne, KeepsDigest, IsNoBatch, StandsShort, StandsShut, StandsOpen, StandsNoBatch, StandsAltered, IsRecordAt, Checks, FindsRecord, FindsRecords, AreBatches}
use Rattle.ws_journal.proofs.Starts.{length-kept}
use Rattle.ws_journal.proofs.Texts.{length-digest, length-number}
use Rattle.ws_journal.proofs.Readings.{records-push}

pub length-record_text : (edition : Edition) (payload : List ℕ) → length (record_text edition payload) ≡ 4 + digest_len edition + length payload
unfolding record_text
length-record_text edition payload =
    let number = number_text w32 (length payload) in
    let digest = digest_text edition payload in
    omega (arith, length-append (number ++ digest) payload, length-append number digest, length-number (length payload), length-digest edition payload)

-- the digest that is kept is the payload's
digest_is : (edition : Edition) (kept : Option (List ℕ)) (payload : List ℕ) → KeepsOne edition kept → KeepsDigest kept payload → kept_text kept ≡ digest_text edition payload
digest_is First None payload one same = refl
digest_is First (Some digest) payload one same = absurd one
digest_is Second None payload one same = absurd one
digest_is Second (Some digest) payload one same = same

kept_is : (edition : Edition) (kept : Option (List ℕ)) (payload : List ℕ) → KeepsOne edition kept → KeepsDigest kept payload → IsKept edition (kept_text kept) payload
kept_is First kept payload one same = tt
kept_is Second None payload one same = absurd one
kept_is Second (Some digest) payload one same = same

module _ (edition : Edition) (at next : ℕ) (kept : Option (List ℕ)) (payload file : List ℕ) (stands : StandsOpen edition (length payload) kept (payload ++ drop next file) (drop at file)) where
  abbrev number : List ℕ
  number = number_text w32 (length payload)

  abbrev rest : List ℕ
  rest = drop next file

  joined : (digest : List ℕ) → number ++ (digest ++ (payload ++ rest)) ≡ number ++ digest ++ payload ++ rest
  joined digest = sym (append_assoc number digest (payload ++ rest)) ∙ sym (append_assoc (number ++ digest) payload rest)

  whole_there : next < length file → IsWhole edition (kept_text kept) payload (number ++ (kept_text kept ++ (payload ++ rest)))
  whole_there within = (stands.short, length-kept edition kept stands.digest, (rest, omega (arith, length-drop next file, within), joined (kept_text kept)))

  pub record_at : (events : List Event) → next ≡ at + 5 + digest_len edition + length payload → KeepsDigest kept payload → IsBatch events → payload ≡ batch_text events → IsRecordAt edition at next events file
  unfolding record_text
  record_at events place same batch text = record {
    payload = payload;
    is = stands.is ∙ ap (λ (d : List ℕ). 1 ∷ (number ++ (d ++ (payload ++ rest)))) (digest_is edition kept payload stands.digest same) ∙ ap (λ (l : List ℕ). 1 ∷ l) (joined (digest_text edition payload));
    batch = record { events = events; batch = batch; text = text; short = stands.short };
    text = text;
    place = omega (arith, place, length-record_text edition payload);
  }

  pub no_batch_at : next < length file → KeepsDigest kept payload → IsNoBatch payload → StandsNoBatch edition (drop at file)
  no_batch_at within same none =
      (number ++ (kept_text kept ++ (payload ++ rest)), stands.is, (kept_text kept, payload, whole_there within, kept_is edition kept payload stands.digest same, λ batch. none batch.events batch.batch batch.text))

altered_there : (edition : Edition) (at next : ℕ) (digest found payload file : List ℕ) → StandsOpen edition (length payload) (Some digest) (payload ++ drop next file) (drop at file) → next < length file
    → found ≡ sha256 payload → digest ≢ found → StandsAltered edition digest found (drop at file)
altered_there First at next digest found payload file stands within is differs = absurd stands.digest
altered_there Second at next digest found payload file stands within is differs =
    (number_text w32 (length payload) ++ (digest ++ (payload ++ drop next file)), stands.is, (payload, whole_there Second at next (Some digest) payload file stands within, is, differs))

-- what the check of a payload says of the record
pub checked : (edition : Edition) (at next : ℕ) (kept : Option (List ℕ)) (payload file : List ℕ) (fault : OpenFault) → StandsOpen edition (length payload) kept (payload ++ drop next file) (drop at file) → next < length file
    → Checks at kept payload (Err fault) → FindsRecord edition at file (Err fault)
checked edition at next kept payload file (Opening.Damaged place) stands within checks = (checks.0, inr (no_batch_at edition at next kept payload file stands within checks.1 checks.2))
checked edition at next kept payload file (Opening.Altered place digest found) stands within checks = (
  checks.0,
  altered_there edition at next digest found payload file (subst (λ (k : Option (List ℕ)). StandsOpen edition (length payload) k (payload ++ drop next file) (drop at file)) checks.1 stands) within checks.2 checks.3,
)
checked edition at next kept payload file (Opening.Foreign place) stands within checks = absurd checks
checked edition at next kept payload file Opening.Disk stands within checks = tt
checked edition at next kept payload file Opening.NoMemory stands within checks = tt

-- ---- the records so far

-- the records before this gate are open, and are these batches
pub record SoFar (edition : Edition) (at : ℕ) (file : List ℕ) (batches : List Batch) : Type 0 where
  pub payloads : List (List ℕ)
  pub is : drop 17 file ≡ records edition payloads ++ drop at file
  pub each : All IsPayload payloads
  pub listed : AreBatches edition 17 payloads batches
  pub place : at ≡ 17 + length (records edition payloads)

pub none_yet : (edition : Edition) (file : List ℕ) → SoFar edition 17 file []
none_yet edition file = record { payloads = []; is = refl; each = All-nil IsPayload; listed = tt; place = refl }

-- batches of these texts have these texts
are_texts : (edition : Edition) (at : ℕ) (payloads : List (List ℕ)) (batches : List Batch) → AreBatches edition at payloads batches → payloads ≡ texts batches
are_texts edition at [] [] are = refl
are_texts edition at [] (b ∷ batches) are = absurd are
are_texts edition at (p ∷ payloads) [] are = absurd are
are_texts edition at (p ∷ payloads) (b ∷ batches) are =
    let rest = are_texts edition (at + length (1 ∷ record_text edition p)) payloads batches are.2 in
    (λ i. are.1 i ∷ rest i)

batches_push : (edition : Edition) (at : ℕ) (payloads : List (List ℕ)) (batches : List Batch) (payload : List ℕ) (batch : Batch) → AreBatches edition at payloads batches
    → batch.at ≡ at + length (records edition payloads) → payload ≡ batch_text batch.events → AreBatches edition at (payloads ++ payload ∷ []) (batches ++ batch ∷ [])
batches_push edition at [] [] payload batch are place text = (omega (arith, place), text, tt)
batches_push edition at [] (b ∷ batches) payload batch are place text = absurd are
batches_push edition at (p ∷ payloads) [] payload batch are place text = absurd are
batches_push edition at (p ∷ payloads) (b ∷ batches) payload batch are place text =
    let further : batch.at ≡ at + length (1 ∷ record_text edition p) + length (records edition payloads) =
    omega (arith, place, length-append (1 ∷ record_text edition p) (records edition payloads)) in
    (are.0, are.1, batches_push edition (at + length (1 ∷ record_text edition p)) payloads batches payload batch are.2 further text)

module _ (edition : Edition) (at : ℕ) (file : List ℕ) (batches : List Batch) (so_far : SoFar edition at file batches) where
  pub one_more : (next : ℕ) (events : List Event) → IsRecordAt edition at next events file → SoFar edition next file (batches ++ record { at = at; events = events } ∷ [])
  one_more next events one =
      let ps = so_far.payloads in
      let text = 1 ∷ record_text edition one.payload in
      record {
        payloads = ps ++ one.payload ∷ [];
        is = so_far.is ∙ ap (λ (l : List ℕ). records edition ps ++ l) one.is ∙ sym (append_assoc (records edition ps) text (drop next file)) ∙ ap (λ (l : List ℕ). l ++ drop next file) (sym (records-push edition ps one.payload));
        each = All-push IsPayload ps one.payload so_far.each one.batch;
        listed = batches_push edition 17 ps batches one.payload (record { at = at; events = events }) so_far.listed so_far.place one.text;
        place = omega (arith, one.place, so_far.place, ap length (records-push edition ps one.payload), length-append (records edition ps) text);
      }

  pub at_end : StandsShut (drop at file) → FindsRecords edition (drop 17 file) (Ok (batches, at + 1))
  at_end (gate, after, is, shut) =
      let ps = so_far.payloads in
      let stand : Stand edition ps gate after (drop 17 file) = record { is = so_far.is ∙ ap (λ (l : List ℕ). records edition ps ++ l) is; batches = so_far.each } in
      subst (λ (texts : List (List ℕ)). IsFound edition texts (drop 17 file) × AreBatches edition 17 texts batches × (at + 1 ≡ 18 + length (records edition texts)))
      (are_texts edition 17 ps batches so_far.listed) ((gate, after, stand, shut), so_far.listed, omega (arith, so_far.place))

  behind : (after : List ℕ) → drop at file ≡ 1 ∷ after → Stand edition so_far.payloads 1 after (drop 17 file)
  behind after is = record { is = so_far.is ∙ ap (λ (l : List ℕ). records edition so_far.payloads ++ l) is; batches = so_far.each }

  damaged_at : (place : ℕ) → place ≡ at → StandsShort edition (drop at file) ⊎ StandsNoBatch edition (drop at file) → IsDamaged edition (drop 17 file) place
  damaged_at place same (inl (after, is, short)) = (so_far.payloads, after, behind after is, same ∙ so_far.place, inl short)
  damaged_at place same (inr (after, is, none)) = (so_far.payloads, after, behind after is, same ∙ so_far.place, inr none)

altered_at : (edition : Edition) (at place : ℕ) (kept found file : List ℕ) (batches : List Batch) → SoFar edition at file batches → place ≡ at → StandsAltered edition kept found (drop at file)
    → IsAltered edition (drop 17 file) place kept found
altered_at First at place kept found file batches so_far same there = there
altered_at Second at place kept found file batches so_far same (after, is, why) =
    (so_far.payloads, after, behind Second at file batches so_far after is, same ∙ so_far.place, why)

-- the first fault
pub fault_at : (edition : Edition) (at : ℕ) (file : List ℕ) (batches : List Batch) (fault : OpenFault) → SoFar edition at file batches → FindsRecord edition at file (Err fault) → FindsRecords edition (drop 17 file) (Err fault)
fault_at edition at file batches (Opening.Damaged place) so_far there = damaged_at edition at file batches so_far place there.0 there.1
fault_at edition at file batches (Opening.Altered place kept found) so_far there = altered_at edition at place kept found file batches so_far there.0 there.1
fault_at edition at file batches (Opening.Foreign place) so_far there = absurd there
fault_at edition at file batches Opening.Disk so_far there = tt
fault_at edition at file batches Opening.NoMemory so_far there = tt
