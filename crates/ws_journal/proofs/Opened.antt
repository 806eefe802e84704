-- Opening refuses nothing that the journal's own calls leave.
use Rattle.std.proofs.Common.{inl, inr, ◌+◌, ◌∷◌, [], ◌++◌, ℕ, List, Option, Some, None, Ok, Err, lit<}
use Rattle.std.proofs.lemmas.List.Elements.{All-nil}
use Rattle.ws_journal.specs.declared.store.Edition.{Edition}
use Rattle.ws_journal.specs.declared.store.Edition.TheVariants.{Second}
use Rattle.ws_journal.specs.declared.store.Side.{Side}
use Rattle.ws_journal.specs.declared.store.Side.TheVariants.{A, B}
use Rattle.ws_journal.specs.declared.store.OpenFault.TheVariants as Opening
use Rattle.ws_journal.specs.declared.journal.Journal.{Journal}
use Rattle.ws_journal.specs.Text.{IsPayload}
use Rattle.ws_journal.specs.Image.{fresh, found, foreign, damaged, altered, Reads, IsUnused}
use Rattle.ws_journal.specs.Stands.{ReadsAs, ReadsEither, MayRead}
use Rattle.ws_journal.specs.Replaced.{ReadsOlderOrNewer, ReadsLeft}
use Rattle.ws_journal.specs.Recovered.{IsMaking}
use Rattle.ws_journal.specs.Opens.{IsOpened, IsOpenedOn, OwnImagesOpen}
use Rattle.ws_journal.proofs.Once.{reads_once}
use Rattle.ws_journal.proofs.Readings.{reads_found}
use Rattle.ws_journal.proofs.Making.{half_either}
use Rattle.ws_journal.proofs.Replacing.{older_or_newer, reads_left}

-- what reads as batches is opened
opened_found : (a b : List ℕ) (edition : Edition) (generation : ℕ) (payloads : List (List ℕ)) → Reads a b (found edition generation payloads) → IsOpened a b
opened_found a b edition generation payloads reads (Ok given) is = tt
opened_found a b edition generation payloads reads (Err (Opening.Foreign at)) is =
    let same = reads_once a b (found edition generation payloads) (foreign at) reads is in absurd cc
opened_found a b edition generation payloads reads (Err (Opening.Damaged at)) is =
    let same = reads_once a b (found edition generation payloads) (damaged at) reads is in absurd cc
opened_found a b edition generation payloads reads (Err (Opening.Altered at kept digest)) is =
    let same = reads_once a b (found edition generation payloads) (altered at kept digest) reads is in absurd cc
opened_found a b edition generation payloads reads (Err Opening.Disk) is = tt
opened_found a b edition generation payloads reads (Err Opening.NoMemory) is = tt

-- and so are two unused devices
opened_fresh : (a b : List ℕ) → Reads a b fresh → IsOpened a b
opened_fresh a b reads (Ok given) is = tt
opened_fresh a b reads (Err (Opening.Foreign at)) is = let same = reads_once a b fresh (foreign at) reads is in absurd cc
opened_fresh a b reads (Err (Opening.Damaged at)) is = let same = reads_once a b fresh (damaged at) reads is in absurd cc
opened_fresh a b reads (Err (Opening.Altered at kept digest)) is = let same = reads_once a b fresh (altered at kept digest) reads is in absurd cc
opened_fresh a b reads (Err Opening.Disk) is = tt
opened_fresh a b reads (Err Opening.NoMemory) is = tt

opened_on : (side : Side) (edition : Edition) (generation : ℕ) (payloads : List (List ℕ)) (file second : List ℕ) → ReadsAs side file second (found edition generation payloads) → IsOpenedOn side file second
opened_on A edition generation payloads file second reads = opened_found file second edition generation payloads reads
opened_on B edition generation payloads file second reads = opened_found second file edition generation payloads reads

module _ (journal : Journal) (payloads : List (List ℕ)) (file second : List ℕ) where
  opened_either : (payload : List ℕ) → ReadsEither journal payloads payload file second → IsOpenedOn journal.side file second
  opened_either payload (inl reads) = opened_on journal.side journal.edition journal.generation payloads file second reads
  opened_either payload (inr reads) = opened_on journal.side journal.edition journal.generation (payloads ++ payload ∷ []) file second reads

  opened_appending : (doubt : Option (List ℕ)) (payload : List ℕ) → MayRead journal payloads doubt payload file second → IsOpenedOn journal.side file second
  opened_appending None payload reads = opened_either payload reads
  opened_appending (Some doubted) payload (inl reads) = opened_either payload reads
  opened_appending (Some doubted) payload (inr reads) = opened_on journal.side journal.edition journal.generation (payloads ++ doubted ∷ []) file second reads

  opened_left : (doubt : Option (List ℕ)) → ReadsLeft journal payloads doubt file second → IsOpenedOn journal.side file second
  opened_left None reads = opened_on journal.side journal.edition journal.generation payloads file second reads
  opened_left (Some doubted) (inl reads) = opened_on journal.side journal.edition journal.generation payloads file second reads
  opened_left (Some doubted) (inr reads) = opened_on journal.side journal.edition journal.generation (payloads ++ doubted ∷ []) file second reads

  opened_beside : (newer : List (List ℕ)) → ReadsOlderOrNewer journal payloads newer file second → IsOpenedOn journal.side file second
  opened_beside newer (inl reads) = opened_on journal.side journal.edition journal.generation payloads file second reads
  opened_beside newer (inr reads) = opened_on journal.side Second (journal.generation + 1) newer file second reads

opened_new : (file second : List ℕ) → IsMaking file → IsUnused second → IsOpened file second
opened_new file second (inl unused) beside = opened_fresh file second (unused, beside)
opened_new file second (inr made) beside =
    opened_found file second Second 1 [] (reads_found Second 1 [] file second (lit< tt, lit< tt) (All-nil IsPayload) made (inl beside)).0

pub own_images : {D : Type 0} (moment : D → ℕ) (images : D → ℕ → List ℕ → Type 0) → OwnImagesOpen moment images
own_images moment images = record {
  standing = λ journal store payloads doubt edition stands file second here there.
      opened_left journal payloads file second doubt
      (reads_left journal payloads doubt file second edition stands.generation stands.batches stands.doubted (stands.device.each file here) (stands.rest.below second there));
  standing_beside = λ journal store payloads newer stands file second here there.
      opened_beside journal payloads file second newer
      (older_or_newer journal payloads newer file second stands.generation stands.next stands.batches stands.doubted (stands.device file here)
      (half_either (journal.generation + 1) newer journal.generation second (stands.beside second there)));
  appending = λ journal old new payloads doubt payload crash file second here there. opened_appending journal payloads file second doubt payload (crash.each file second here there);
  closing = λ journal old new payloads doubt crash file second here there. opened_left journal payloads file second doubt (crash.each file second here there);
  making = λ journal old new payloads newer crash file second here there. opened_beside journal payloads file second newer (crash.each file second here there);
  making_new = opened_new;
}
