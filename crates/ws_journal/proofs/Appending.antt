-- What an append to the device that counts means for the two devices.
use Rattle.std.proofs.Common.{◌≡◌, ◌⊎◌, ⊎_elim, inl, inr, ◌+◌, ◌≤◌, ◌∷◌, [], ◌++◌, ℕ, List, Option, Some, None, Result, Ok, Err, length, refl, sym, ◌∙◌, ap, subst, arith}
use Rattle.std.specs.Prelude.{All}
use Rattle.std.proofs.lemmas.List.Elements.{All-push}
use Rattle.ws_disk.specs.Crash.{LeavesOnly}
use Rattle.ws_journal.specs.declared.store.Edition.{Edition}
use Rattle.ws_journal.specs.declared.store.Edition.TheVariants.{Second}
use Rattle.ws_journal.specs.declared.store.Side.{Side}
use Rattle.ws_journal.specs.declared.store.Side.TheVariants.{A, B}
use Rattle.ws_journal.specs.declared.store.Store.{Store}
use Rattle.ws_journal.specs.declared.store.AppendFault.{AppendFault}
use Rattle.ws_journal.specs.declared.store.AppendFault.TheVariants.{Disk, Full, NoMemory}
use Rattle.ws_journal.specs.declared.journal.Journal.{Journal}
use Rattle.ws_journal.specs.Text.{front, record_text, IsPayload}
use Rattle.ws_journal.specs.Image.{found, IsGeneration, IsBelow}
use Rattle.ws_journal.specs.Kept.{IsShut, IsWithOrWithout}
use Rattle.ws_journal.specs.Made.{IsSpare}
use Rattle.ws_journal.specs.Stands.{counting, other, ReadsAs, IsLeft, IsDoubted, Counts, Stands, SameJournal, MayDoubt, Appends, ClosesFirst, ReadsEither, MayRead, AppendCrash, DoubtClosed, Appended}
use Rattle.ws_disk.proofs.Goes.{started}
use Rattle.ws_journal.proofs.Files.{doubt_either, shut_within}
use Rattle.ws_journal.proofs.Records.{doubt_within}
use Rattle.ws_journal.proofs.Readings.{front-push, reads_found}

pub reads_side : (side : Side) (edition : Edition) (generation : ℕ) (payloads : List (List ℕ)) (file second : List ℕ) → IsGeneration edition generation → All IsPayload payloads
    → IsShut (front edition generation payloads) file → IsBelow generation second → ReadsAs side file second (found edition generation payloads)
reads_side A edition generation payloads file second is batches shut below = (reads_found edition generation payloads file second is batches shut below).0
reads_side B edition generation payloads file second is batches shut below = (reads_found edition generation payloads file second is batches shut below).1

-- one more open record, in edition 2
pub one_more : (edition : Edition) (generation : ℕ) (payloads : List (List ℕ)) (payload : List ℕ) → edition ≡ Second
    → front edition generation payloads ++ 1 ∷ record_text Second payload ≡ front edition generation (payloads ++ payload ∷ [])
one_more edition generation payloads payload is =
    ap (λ (e : Edition). front edition generation payloads ++ 1 ∷ record_text e payload) (sym is) ∙ sym (front-push edition generation payloads payload)

module _ (journal : Journal) (payloads : List (List ℕ)) (edition : journal.edition ≡ Second) (generation : IsGeneration journal.edition journal.generation) (batches : All IsPayload payloads) where
  abbrev begun : List ℕ
  begun = front journal.edition journal.generation payloads

  reads_these : (file second : List ℕ) → IsBelow journal.generation second → IsShut begun file → ReadsAs journal.side file second (found journal.edition journal.generation payloads)
  reads_these file second below shut = reads_side journal.side journal.edition journal.generation payloads file second generation batches shut below

  reads_more : (payload file second : List ℕ) → IsPayload payload → IsBelow journal.generation second → IsShut (begun ++ 1 ∷ record_text Second payload) file
      → ReadsAs journal.side file second (found journal.edition journal.generation (payloads ++ payload ∷ []))
  reads_more payload file second batch below shut =
      reads_side journal.side journal.edition journal.generation (payloads ++ payload ∷ []) file second generation (All-push IsPayload payloads payload batches batch)
      (subst (λ (f : List ℕ). IsShut f file) (one_more journal.edition journal.generation payloads payload edition) shut) below

  pub reads_either : (payload file second : List ℕ) → IsPayload payload → IsBelow journal.generation second → IsWithOrWithout begun (record_text Second payload) file → ReadsEither journal payloads payload file second
  reads_either payload file second batch below (inl shut) = inl (reads_these file second below shut)
  reads_either payload file second batch below (inr shut) = inr (reads_more payload file second batch below shut)

  reads_left : (doubt : Option (List ℕ)) (payload file second : List ℕ) → IsDoubted doubt → IsBelow journal.generation second → IsLeft begun doubt file → MayRead journal payloads doubt payload file second
  reads_left None payload file second doubted below shut = inl (reads_these file second below shut)
  reads_left (Some other) payload file second doubted below left =
      ⊎_elim (λ (shut : IsShut begun file). inl (inl (reads_these file second below shut))) (λ (shut : IsShut (begun ++ 1 ∷ record_text Second other) file). inr (reads_more other file second doubted below shut))
      (doubt_either begun (record_text Second other) file left)

  reads_new : (doubt : Option (List ℕ)) (payload file second : List ℕ) → ReadsEither journal payloads payload file second → MayRead journal payloads doubt payload file second
  reads_new None payload file second either = either
  reads_new (Some other) payload file second either = inl either

  pub may_read : (doubt : Option (List ℕ)) (payload file second : List ℕ) → IsPayload payload → IsDoubted doubt → IsBelow journal.generation second
      → IsWithOrWithout begun (record_text Second payload) file ⊎ IsLeft begun doubt file → MayRead journal payloads doubt payload file second
  may_read doubt payload file second batch doubted below (inl either) = reads_new doubt payload file second (reads_either payload file second batch below either)
  may_read doubt payload file second batch doubted below (inr left) = reads_left doubt payload file second doubted below left

module _ {D : Type 0} (moment : D → ℕ) (images : D → ℕ → List ℕ → Type 0) (journal after : Journal) (old new : Store D) (payloads : List (List ℕ)) (doubt : Option (List ℕ))
    (stands : Stands moment images journal old payloads doubt) (untouched : other journal.side new ≡ other journal.side old) where
  -- what a journal that changed so stands for
  pub standing_on : (left : Option (List ℕ)) (more : List (List ℕ)) → SameJournal journal after → All IsPayload more → IsDoubted left
      → Counts after (front journal.edition journal.generation more) left (images (counting journal.side new) (moment (counting journal.side new))) → Stands moment images after new more left
  standing_on left more same batches doubted counts =
      let by_generation = subst (λ (g : ℕ). Counts after (front journal.edition g more) left (images (counting journal.side new) (moment (counting journal.side new)))) (sym same.generation) counts in
      let by_edition = subst (λ (e : Edition). Counts after (front e after.generation more) left (images (counting journal.side new) (moment (counting journal.side new)))) (sym same.edition) by_generation in
      let rest = subst (λ (g : ℕ). IsSpare g (images (other journal.side new) (moment (other journal.side new)))) (sym same.generation) (subst (λ (d : D). IsSpare journal.generation (images d (moment d))) (sym untouched) stands.rest) in
      record {
        generation = subst (λ (e : Edition). IsGeneration e after.generation) (sym same.edition) (subst (λ (g : ℕ). IsGeneration journal.edition g) (sym same.generation) stands.generation);
        batches = batches;
        doubted = doubted;
        device = subst (λ (s : Side). Counts after (front after.edition after.generation more) left (images (counting s new) (moment (counting s new)))) (sym same.side) by_edition;
        rest = subst (λ (s : Side). IsSpare after.generation (images (other s new) (moment (other s new)))) (sym same.side) rest;
      }

-- the moments of the device that counts are those of the store
module _ {D : Type 0} (moment : D → ℕ) (images : D → ℕ → List ℕ → Type 0) (journal after : Journal) (old new : Store D) (payloads : List (List ℕ)) (doubt : Option (List ℕ)) (payload : List ℕ)
    (edition : journal.edition ≡ Second) (batch : IsPayload payload) (stands : Stands moment images journal old payloads doubt) (untouched : other journal.side new ≡ other journal.side old) where
  abbrev begins : List ℕ
  begins = front journal.edition journal.generation payloads

  abbrev Rest : List ℕ → Type 0
  Rest = images (other journal.side new) (moment (other journal.side new))

  below : (second : List ℕ) → Rest second → IsBelow journal.generation second
  below second there = stands.rest.below second (subst (λ (d : D). images d (moment d) second) untouched there)

  pub crash : LeavesOnly moment images (counting journal.side old) (counting journal.side new) (λ image. IsWithOrWithout begins (record_text Second payload) image ⊎ IsLeft begins doubt image)
      → AppendCrash moment images journal old new payloads doubt payload
  crash run = record {
    each = λ file second there rest. may_read journal payloads edition stands.generation stands.batches doubt payload file second batch stands.doubted (below second rest) (run.each file there);
    before = λ t file second le there rest.
        ⊎_elim inl (λ (left : IsWithOrWithout begins (record_text Second payload) file ⊎ IsLeft begins doubt file). inr (may_read journal payloads edition stands.generation stands.batches doubt payload file second batch stands.doubted (below second rest) left))
        (run.before t file le there);
    later = run.later;
    untouched = untouched;
  }

  standing : (left : Option (List ℕ)) (more : List (List ℕ)) → SameJournal journal after → All IsPayload more → IsDoubted left
      → Counts after (front journal.edition journal.generation more) left (images (counting journal.side new) (moment (counting journal.side new))) → Stands moment images after new more left
  standing = standing_on moment images journal after old new payloads doubt stands untouched

  pub closes_first : (result : Result (Unit {0}) AppendFault) → SameJournal journal after
      → ClosesFirst moment images (counting journal.side old) (counting journal.side new) after begins doubt payload result → DoubtClosed moment images journal after old new payloads doubt payload result
  closes_first result same (inl settles) = inl (
    settles.settled,
    settles.begun,
    settles.within,
    λ file second there rest. reads_either journal payloads edition stands.generation stands.batches payload file second batch (below second rest) (settles.each file there),
  )
  closes_first result same (inr open_still) = inr (open_still.0, standing doubt payloads same stands.batches stands.doubted open_still.1)

  may_doubt : (left : Option (List ℕ)) → MayDoubt doubt payload left → IsDoubted left
  may_doubt left (inl is) = subst IsDoubted (sym is) stands.doubted
  may_doubt left (inr (inl is)) = subst IsDoubted (sym is) tt
  may_doubt left (inr (inr is)) = subst IsDoubted (sym is) batch

  pub appended : (result : Result (Unit {0}) AppendFault) → SameJournal journal after
      → Appends journal after begins doubt payload (images (counting journal.side new) (moment (counting journal.side new))) result → Appended moment images after new payloads doubt payload result
  appended (Ok done) same counts =
      standing None (payloads ++ payload ∷ []) same (All-push IsPayload payloads payload stands.batches batch) tt
      (subst (λ (f : List ℕ). Counts after f None (images (counting journal.side new) (moment (counting journal.side new)))) (one_more journal.edition journal.generation payloads payload edition) counts)
  appended (Err Disk) same failed = (failed.0, failed.1, standing failed.0 payloads same stands.batches (may_doubt failed.0 failed.1) failed.2)
  appended (Err (Full tail asked)) same failed = absurd failed
  appended (Err NoMemory) same failed = absurd failed

-- the store with another device
abbrev pub with_a : {D : Type 0} → Store D → D → Store D
with_a store disk = record { a = disk; b = store.b }

abbrev pub with_b : {D : Type 0} → Store D → D → Store D
with_b store disk = record { a = store.a; b = disk }

left_within : (begun : List ℕ) (doubt : Option (List ℕ)) (file : List ℕ) → IsLeft begun doubt file → length begun + 1 ≤ length file
left_within begun None file shut = shut_within begun file shut
left_within begun (Some payload) file left = doubt_within begun (record_text Second payload) file left

-- the same, where it is known which device counts
module _ {D : Type 0} (moment : D → ℕ) (images : D → ℕ → List ℕ → Type 0) (journal : Journal) (side : Side) (is : journal.side ≡ side) (old : Store D) (payloads : List (List ℕ)) (doubt : Option (List ℕ))
    (stands : Stands moment images journal old payloads doubt) where
  pub counts_at : Counts journal (front journal.edition journal.generation payloads) doubt (images (counting side old) (moment (counting side old)))
  counts_at =
      subst (λ (s : Side). Counts journal (front journal.edition journal.generation payloads) doubt (images (counting s old) (moment (counting s old)))) is stands.device

  pub place_at : (file : List ℕ) → images (counting side old) (moment (counting side old)) file → journal.tail ≤ length file
  place_at file there =
      omega (arith, left_within (front journal.edition journal.generation payloads) doubt file (counts_at.each file there), counts_at.tail)

  module _ (after : Journal) (new : Store D) (payload : List ℕ) (edition : journal.edition ≡ Second) (batch : IsPayload payload) (untouched : other side new ≡ other side old) where
    apart : other journal.side new ≡ other journal.side old
    apart = subst (λ (s : Side). other s new ≡ other s old) (sym is) untouched

    pub crash_at : LeavesOnly moment images (counting side old) (counting side new) (λ image. IsWithOrWithout (front journal.edition journal.generation payloads) (record_text Second payload) image ⊎ IsLeft (front journal.edition journal.generation payloads) doubt image)
        → AppendCrash moment images journal old new payloads doubt payload
    crash_at run =
        crash moment images journal after old new payloads doubt payload edition batch stands apart
        (subst (λ (s : Side). LeavesOnly moment images (counting s old) (counting s new) (λ image. IsWithOrWithout (front journal.edition journal.generation payloads) (record_text Second payload) image ⊎ IsLeft (front journal.edition journal.generation payloads) doubt image)) (sym is) run)

    pub closes_at : (result : Result (Unit {0}) AppendFault) → SameJournal journal after
        → ClosesFirst moment images (counting side old) (counting side new) after (front journal.edition journal.generation payloads) doubt payload result
        → DoubtClosed moment images journal after old new payloads doubt payload result
    closes_at result same closed =
        closes_first moment images journal after old new payloads doubt payload edition batch stands apart result same
        (subst (λ (s : Side). ClosesFirst moment images (counting s old) (counting s new) after (front journal.edition journal.generation payloads) doubt payload result) (sym is) closed)

    pub appended_at : (result : Result (Unit {0}) AppendFault) → SameJournal journal after
        → Appends journal after (front journal.edition journal.generation payloads) doubt payload (images (counting side new) (moment (counting side new))) result
        → Appended moment images after new payloads doubt payload result
    appended_at result same appends =
        appended moment images journal after old new payloads doubt payload edition batch stands apart result same
        (subst (λ (s : Side). Appends journal after (front journal.edition journal.generation payloads) doubt payload (images (counting s new) (moment (counting s new))) result) (sym is) appends)

-- before any call
pub crash_none : {D : Type 0} (moment : D → ℕ) (images : D → ℕ → List ℕ → Type 0) (journal : Journal) (old : Store D) (payloads : List (List ℕ)) (doubt : Option (List ℕ)) (payload : List ℕ)
    → journal.edition ≡ Second → IsPayload payload → Stands moment images journal old payloads doubt → AppendCrash moment images journal old old payloads doubt payload
crash_none moment images journal old payloads doubt payload edition batch stands =
    crash moment images journal journal old old payloads doubt payload edition batch stands refl
    (started moment images (counting journal.side old) (λ image. IsWithOrWithout (front journal.edition journal.generation payloads) (record_text Second payload) image ⊎ IsLeft (front journal.edition journal.generation payloads) doubt image)
    (λ image now. inr (stands.device.each image now)))
