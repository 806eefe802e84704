-- What the calls of a replacement mean for the two devices.
use Rattle.std.proofs.Common.{◌≡◌, ◌⊎◌, ⊎_elim, inl, inr, ◌+◌, ◌-◌, ◌^◌, ◌<◌, ◌∷◌, [], ◌++◌, ℕ, List, Option, Some, None, Result, Ok, Err, OnOk, OnErr, length, refl, sym, ◌∙◌, ap, subst, arith}
use Rattle.std.specs.Prelude.{All, false, IsErr, IsErrAnd, is_ok}
use Rattle.std.proofs.lemmas.List.Elements.{All-push}
use Rattle.ws_disk.specs.Crash.{LeavesOnly}
use Rattle.ws_disk.specs.declared.disk.DiskFailed.{DiskFailed}
use Rattle.ws_journal.specs.declared.store.Edition.{Edition}
use Rattle.ws_journal.specs.declared.store.Edition.TheVariants.{Second}
use Rattle.ws_journal.specs.declared.store.Side.{Side}
use Rattle.ws_journal.specs.declared.store.Side.TheVariants.{A, B}
use Rattle.ws_journal.specs.declared.store.Store.{Store}
use Rattle.ws_journal.specs.declared.journal.Journal.{Journal}
use Rattle.ws_journal.specs.declared.journal.Doubt.TheVariants.{Nothing, Batch, Device}
use Rattle.ws_journal.specs.Text.{front, record_text, records, IsPayload}
use Rattle.ws_journal.specs.Image.{found, IsGeneration, IsBelow}
use Rattle.ws_journal.specs.Kept.{IsShut, Each}
use Rattle.ws_journal.specs.Made.{IsSpare, IsHalfMade, IsMade, IsBelowOrMade}
use Rattle.ws_journal.specs.Stands.{counting, other, ReadsAs, IsLeft, IsDoubted, doubt_of, Counts, Closes, SameJournal, Stands}
use Rattle.ws_journal.specs.Replaced.{StandsBeside, BesideCrash, CountingCrash, ReadsOlderOrNewer, ReadsLeft, ClosedBatch, ClosedDevice, IsNext, KnowsDevice, Replaced}
use Rattle.ws_journal.proofs.Readings.{shut_device, reads_found}
use Rattle.ws_journal.proofs.Appending.{reads_side, one_more, standing_on}
use Rattle.ws_journal.proofs.Files.{shut_within, doubt_either}
use Rattle.ws_journal.proofs.Making.{half_either}
use Rattle.ws_journal.proofs.Opening.{length-front}

-- a device that counts is below the next generation
pub counts_below : (edition : Edition) (generation : ℕ) (payloads : List (List ℕ)) (file : List ℕ) → IsGeneration edition generation → All IsPayload payloads
    → IsShut (front edition generation payloads) file → IsBelow (generation + 1) file
counts_below edition generation payloads file is batches shut =
    let device = shut_device edition generation payloads file is batches shut in
    inr (edition, generation, device.0, device.1, omega arith)

reads_newer : (side : Side) (generation : ℕ) (newer : List (List ℕ)) (file second : List ℕ) → IsGeneration Second generation → All IsPayload newer
    → IsBelow generation file → IsMade generation newer second → ReadsAs side file second (found Second generation newer)
reads_newer A generation newer file second is batches below made = (reads_found Second generation newer second file is batches made below).1
reads_newer B generation newer file second is batches below made = (reads_found Second generation newer second file is batches made below).0

pub next_generation : (generation : ℕ) → generation < 2 ^ 63 - 1 → IsGeneration Second (generation + 1)
next_generation generation next = (omega arith, omega (arith, next))

-- beside an older device that counts, a device that may have been made reads so
pub older_or_newer : (journal : Journal) (payloads newer : List (List ℕ)) (file second : List ℕ) → IsGeneration journal.edition journal.generation → journal.generation < 2 ^ 63 - 1
    → All IsPayload payloads → All IsPayload newer → IsShut (front journal.edition journal.generation payloads) file → IsBelowOrMade journal.generation (journal.generation + 1) newer second
    → ReadsOlderOrNewer journal payloads newer file second
older_or_newer journal payloads newer file second is next batches doubted shut (inl below) =
    inl (reads_side journal.side journal.edition journal.generation payloads file second is batches shut below)
older_or_newer journal payloads newer file second is next batches doubted shut (inr made) =
    inr (reads_newer journal.side (journal.generation + 1) newer file second (next_generation journal.generation next) doubted
    (counts_below journal.edition journal.generation payloads file is batches shut) made)

module _ {D : Type 0} (moment : D → ℕ) (images : D → ℕ → List ℕ → Type 0) where
  abbrev Now : D → List ℕ → Type 0
  Now disk = images disk (moment disk)

  -- a run of calls of the other device
  pub beside_crash : (side : Side) (old new : Store D) (P Q : List ℕ → Type 0) (R : List ℕ → List ℕ → Type 0) → counting side new ≡ counting side old → Each (Now (counting side old)) P
      → ((file second : List ℕ) → P file → Q second → R file second) → LeavesOnly moment images (other side old) (other side new) Q → BesideCrash moment images side old new R
  beside_crash side old new P Q R untouched each reads run = record {
    each = λ file second now left. reads file second (each file (subst (λ (d : D). Now d file) untouched now)) (run.each second left);
    before = λ t file second le now left.
        ⊎_elim inl (λ (q : Q second). inr (reads file second (each file (subst (λ (d : D). Now d file) untouched now)) q)) (run.before t second le left);
    later = run.later;
    untouched = untouched;
  }

  -- while the gate of the other device is closed
  pub closing_beside : (journal : Journal) (side : Side) → journal.side ≡ side → (old new : Store D) (payloads newer : List (List ℕ)) → StandsBeside moment images journal old payloads newer → counting side new ≡ counting side old
      → LeavesOnly moment images (other side old) (other side new) (IsHalfMade (journal.generation + 1) newer) → BesideCrash moment images journal.side old new (ReadsOlderOrNewer journal payloads newer)
  closing_beside journal side is old new payloads newer stands untouched run =
      subst (λ (s : Side). BesideCrash moment images s old new (ReadsOlderOrNewer journal payloads newer)) (sym is)
      (beside_crash side old new (IsShut (front journal.edition journal.generation payloads)) (IsHalfMade (journal.generation + 1) newer) (ReadsOlderOrNewer journal payloads newer) untouched
      (subst (λ (s : Side). Each (Now (counting s old)) (IsShut (front journal.edition journal.generation payloads))) is stands.device)
      (λ file second shut half. older_or_newer journal payloads newer file second stands.generation stands.next stands.batches stands.doubted shut (half_either (journal.generation + 1) newer journal.generation second half))
      run)

  -- once it was to be closed
  pub closed_beside : (journal after : Journal) (side : Side) → journal.side ≡ side → (old new : Store D) (payloads newer : List (List ℕ)) → StandsBeside moment images journal old payloads newer → counting side new ≡ counting side old
      → (result : Result (Unit {0}) DiskFailed) → OnOk result (after ≡ record journal { doubt = Nothing }) → OnOk result (IsSpare journal.generation (Now (other side new))) → OnErr result (after ≡ journal)
      → Each (Now (other side new)) (IsHalfMade (journal.generation + 1) newer) → ClosedDevice moment images after new payloads newer result
  closed_beside journal after side is old new payloads newer stands untouched result settled spare failed half = cases result settled spare failed
    where
      shut : Each (Now (counting journal.side new)) (IsShut (front journal.edition journal.generation payloads))
      shut image now = stands.device image (subst (λ (d : D). Now d image) (subst (λ (s : Side). counting s new ≡ counting s old) (sym is) untouched) now)

      cases : (result : Result (Unit {0}) DiskFailed) → OnOk result (after ≡ record journal { doubt = Nothing }) → OnOk result (IsSpare journal.generation (Now (other side new))) → OnErr result (after ≡ journal)
          → ClosedDevice moment images after new payloads newer result
      cases (Ok done) settled spare failed =
          subst (λ (j : Journal). Stands moment images j new payloads None) (sym settled) (record {
            generation = stands.generation;
            batches = stands.batches;
            doubted = tt;
            device = record { tail = stands.tail; each = shut; known = refl };
            rest = subst (λ (s : Side). IsSpare journal.generation (Now (other s new))) (sym is) spare;
          })
      cases (Err e) settled spare failed =
          subst (λ (j : Journal). StandsBeside moment images j new payloads newer) (sym failed) (record {
            generation = stands.generation;
            next = stands.next;
            batches = stands.batches;
            doubted = stands.doubted;
            tail = stands.tail;
            device = shut;
            known = stands.known;
            beside = subst (λ (s : Side). Each (Now (other s new)) (IsHalfMade (journal.generation + 1) newer)) (sym is) half;
          })

-- a batch in doubt is no device in doubt
pub not_device : (journal : Journal) (doubt : Option (List ℕ)) → journal.doubt ≡ doubt_of doubt → journal.doubt ≡ Device → ⊥
not_device journal None known is = cc
not_device journal (Some payload) known is = cc

pub failed_is : {T E : Type 0} (Q : E → Type 0) (r : Result T E) → IsErrAnd r Q → IsErr r
failed_is Q (Ok x) failed = absurd failed
failed_is Q (Err e) failed = refl

-- what is left of a device that counts reads as its batches, or with the one in doubt
pub reads_left : (journal : Journal) (payloads : List (List ℕ)) (doubt : Option (List ℕ)) (file second : List ℕ) → (journal.edition ≡ Second) ⊎ (doubt ≡ None) → IsGeneration journal.edition journal.generation
    → All IsPayload payloads → IsDoubted doubt → IsLeft (front journal.edition journal.generation payloads) doubt file → IsBelow journal.generation second → ReadsLeft journal payloads doubt file second
reads_left journal payloads None file second edition is batches doubted shut below =
    reads_side journal.side journal.edition journal.generation payloads file second is batches shut below
reads_left journal payloads (Some payload) file second (inr none) is batches doubted left below = absurd cc
reads_left journal payloads (Some payload) file second (inl edition) is batches doubted left below =
    ⊎_elim (λ (shut : IsShut (front journal.edition journal.generation payloads) file). inl (reads_side journal.side journal.edition journal.generation payloads file second is batches shut below))
    (λ (more : IsShut (front journal.edition journal.generation payloads ++ 1 ∷ record_text Second payload) file). inr
    (reads_side journal.side journal.edition journal.generation (payloads ++ payload ∷ []) file second is (All-push IsPayload payloads payload batches doubted)
    (subst (λ (f : List ℕ). IsShut f file) (one_more journal.edition journal.generation payloads payload edition) more) below))
    (doubt_either (front journal.edition journal.generation payloads) (record_text Second payload) file left)

module _ {D : Type 0} (moment : D → ℕ) (images : D → ℕ → List ℕ → Type 0) where
  -- a run of calls of the device that counts
  counting_crash : (side : Side) (old new : Store D) (P Q : List ℕ → Type 0) (R : List ℕ → List ℕ → Type 0) → other side new ≡ other side old → Each (images (other side old) (moment (other side old))) Q
      → ((file second : List ℕ) → P file → Q second → R file second) → LeavesOnly moment images (counting side old) (counting side new) P → CountingCrash moment images side old new R
  counting_crash side old new P Q R untouched each reads run = record {
    each = λ file second left now. reads file second (run.each file left) (each second (subst (λ (d : D). images d (moment d) second) untouched now));
    before = λ t file second le left now.
        ⊎_elim inl (λ (p : P file). inr (reads file second p (each second (subst (λ (d : D). images d (moment d) second) untouched now)))) (run.before t file le left);
    later = run.later;
    untouched = untouched;
  }

  -- while the gate of a batch is closed
  pub closing_batch : (journal : Journal) (side : Side) → journal.side ≡ side → (old new : Store D) (payloads : List (List ℕ)) (doubt : Option (List ℕ)) → (journal.edition ≡ Second) ⊎ (doubt ≡ None)
      → Stands moment images journal old payloads doubt → other side new ≡ other side old
      → LeavesOnly moment images (counting side old) (counting side new) (IsLeft (front journal.edition journal.generation payloads) doubt) → CountingCrash moment images journal.side old new (ReadsLeft journal payloads doubt)
  closing_batch journal side is old new payloads doubt edition stands untouched run =
      subst (λ (s : Side). CountingCrash moment images s old new (ReadsLeft journal payloads doubt)) (sym is)
      (counting_crash side old new (IsLeft (front journal.edition journal.generation payloads) doubt) (IsBelow journal.generation) (ReadsLeft journal payloads doubt) untouched
      (subst (λ (s : Side). Each (images (other s old) (moment (other s old))) (IsBelow journal.generation)) is stands.rest.below)
      (λ file second left below. reads_left journal payloads doubt file second edition stands.generation stands.batches stands.doubted left below) run)

  -- once it was to be closed
  pub closed_batch : (journal after : Journal) (side : Side) → journal.side ≡ side → (old new : Store D) (payloads : List (List ℕ)) (doubt : Option (List ℕ)) → Stands moment images journal old payloads doubt
      → other side new ≡ other side old → SameJournal journal after → (result : Result (Unit {0}) DiskFailed)
      → Closes after (front journal.edition journal.generation payloads) doubt (images (counting side new) (moment (counting side new))) result → ClosedBatch moment images after new payloads doubt result
  closed_batch journal after side is old new payloads doubt stands untouched same result closes =
      cases result (subst (λ (s : Side). Closes after (front journal.edition journal.generation payloads) doubt (images (counting s new) (moment (counting s new))) result) (sym is) closes)
    where
      apart : other journal.side new ≡ other journal.side old
      apart = subst (λ (s : Side). other s new ≡ other s old) (sym is) untouched

      cases : (result : Result (Unit {0}) DiskFailed) → Closes after (front journal.edition journal.generation payloads) doubt (images (counting journal.side new) (moment (counting journal.side new))) result
          → ClosedBatch moment images after new payloads doubt result
      cases (Ok done) counts = standing_on moment images journal after old new payloads doubt stands apart None payloads same stands.batches tt counts
      cases (Err e) counts = standing_on moment images journal after old new payloads doubt stands apart doubt payloads same stands.batches stands.doubted counts

module _ {D : Type 0} (moment : D → ℕ) (images : D → ℕ → List ℕ → Type 0) (journal after : Journal) (side next : Side) (is : journal.side ≡ side) (old new : Store D) (payloads newer : List (List ℕ))
    (stands : Stands moment images journal old payloads None) (untouched : counting side new ≡ counting side old) (small : journal.generation < 2 ^ 63 - 1) (batches : All IsPayload newer) where
  abbrev Present : D → List ℕ → Type 0
  Present disk = images disk (moment disk)

  shut_at : Each (Present (counting side new)) (IsShut (front journal.edition journal.generation payloads))
  shut_at image now = (subst (λ (s : Side). Each (Present (counting s old)) (IsShut (front journal.edition journal.generation payloads))) is stands.device.each) image
      (subst (λ (d : D). Present d image) untouched now)

  -- while the other device is made
  pub making_next : LeavesOnly moment images (other side old) (other side new) (IsBelowOrMade journal.generation (journal.generation + 1) newer) → BesideCrash moment images journal.side old new (ReadsOlderOrNewer journal payloads newer)
  making_next run =
      subst (λ (s : Side). BesideCrash moment images s old new (ReadsOlderOrNewer journal payloads newer)) (sym is)
      (beside_crash moment images side old new (IsShut (front journal.edition journal.generation payloads)) (IsBelowOrMade journal.generation (journal.generation + 1) newer) (ReadsOlderOrNewer journal payloads newer) untouched
      (subst (λ (s : Side). Each (Present (counting s old)) (IsShut (front journal.edition journal.generation payloads))) is stands.device.each)
      (λ file second shut made. older_or_newer journal payloads newer file second stands.generation small stands.batches batches shut made) run)

  -- once it was made, and counts
  made_next : (tail : ℕ) → tail ≡ 18 + length (records Second newer) → counting next new ≡ other side new → other next new ≡ counting side new → IsNext next (journal.generation + 1) tail journal after
      → Each (Present (other side new)) (IsMade (journal.generation + 1) newer) → Stands moment images after new newer None
  made_next tail ends here there switched made =
      let up = journal.generation + 1 in
      let is_next = next_generation journal.generation small in
      let counts : Counts after (front Second up newer) None (Present (counting next new)) = record {
        tail = omega (arith, switched.ends, ends, length-front Second up newer);
        each = λ image now. made image (subst (λ (d : D). Present d image) here now);
        known = switched.doubt ∙ stands.device.known;
      } in
      let old_shut : Each (Present (other next new)) (IsShut (front journal.edition journal.generation payloads)) = λ image now. shut_at image (subst (λ (d : D). Present d image) there now) in
      let spare : IsSpare up (Present (other next new)) = record {
        below = λ image now. counts_below journal.edition journal.generation payloads image stands.generation stands.batches (old_shut image now);
        gate = inr (λ image now. omega (arith, shut_within (front journal.edition journal.generation payloads) image (old_shut image now)));
      } in
      let by_generation = subst (λ (g : ℕ). Counts after (front Second g newer) None (Present (counting next new))) (sym switched.numbered) counts in
      let by_edition = subst (λ (e : Edition). Counts after (front e after.generation newer) None (Present (counting next new))) (sym switched.edition) by_generation in
      let rest = subst (λ (g : ℕ). IsSpare g (Present (other next new))) (sym switched.numbered) spare in
      record {
        generation = subst (λ (e : Edition). IsGeneration e after.generation) (sym switched.edition) (subst (λ (g : ℕ). IsGeneration Second g) (sym switched.numbered) is_next);
        batches = batches;
        doubted = tt;
        device = subst (λ (s : Side). Counts after (front after.edition after.generation newer) None (Present (counting s new))) (sym switched.counts) by_edition;
        rest = subst (λ (s : Side). IsSpare after.generation (Present (other s new))) (sym switched.counts) rest;
      }

  -- while it couldn't be made
  not_made : after ≡ journal → IsSpare journal.generation (Present (other side new)) → Stands moment images after new payloads None
  not_made same spare =
      subst (λ (j : Journal). Stands moment images j new payloads None) (sym same) (record {
        generation = stands.generation;
        batches = stands.batches;
        doubted = tt;
        device = record { tail = stands.device.tail; each = subst (λ (s : Side). Each (Present (counting s new)) (IsShut (front journal.edition journal.generation payloads))) (sym is) shut_at; known = stands.device.known };
        rest = subst (λ (s : Side). IsSpare journal.generation (Present (other s new))) (sym is) spare;
      })

  -- once its gate is in doubt
  half_next : KnowsDevice journal after → Each (Present (other side new)) (IsHalfMade (journal.generation + 1) newer) → StandsBeside moment images after new payloads newer
  half_next knows half =
      let e = sym knows.same.edition in
      let g = sym knows.same.generation in
      let s = sym is ∙ sym knows.same.side in
      let begins : front journal.edition journal.generation payloads ≡ front after.edition after.generation payloads = (λ i. front (e i) (g i) payloads) in
      record {
        generation = subst (λ (x : Edition). IsGeneration x after.generation) e (subst (λ (x : ℕ). IsGeneration journal.edition x) g stands.generation);
        next = omega (arith, small, knows.same.generation);
        batches = stands.batches;
        doubted = batches;
        tail = omega (arith, knows.ends, stands.device.tail, ap length begins);
        device = subst (λ (x : Side). Each (Present (counting x new)) (IsShut (front after.edition after.generation payloads))) s
            (λ image now. subst (λ (f : List ℕ). IsShut f image) begins (shut_at image now));
        known = knows.doubt;
        beside = subst (λ (x : Side). Each (Present (other x new)) (IsHalfMade (after.generation + 1) newer)) s
            (subst (λ (x : ℕ). Each (Present (other side new)) (IsHalfMade (x + 1) newer)) g half);
      }

  pub replaced : (tail : ℕ) → tail ≡ 18 + length (records Second newer) → counting next new ≡ other side new → other next new ≡ counting side new → (result : Result (Unit {0}) DiskFailed)
      → OnOk result (IsNext next (journal.generation + 1) tail journal after) → OnOk result (Each (Present (other side new)) (IsMade (journal.generation + 1) newer))
      → (IsErr result → ((after ≡ journal) × IsSpare journal.generation (Present (other side new))) ⊎ (KnowsDevice journal after × Each (Present (other side new)) (IsHalfMade (journal.generation + 1) newer)))
      → Replaced moment images journal after new payloads newer (is_ok result)
  replaced tail ends here there (Ok done) switched made failed = (switched.edition, switched.numbered, made_next tail ends here there switched made)
  replaced tail ends here there (Err e) switched made failed =
      elim (failed refl) [
        | inl before ↦ inl (not_made before.0 before.1)
        | inr doubt ↦ inr (half_next doubt.0 doubt.1)
      ]

pub not_done : {T E : Type 0} (Q : E → Type 0) (r : Result T E) → IsErrAnd r Q → is_ok r ≡ false
not_done Q (Ok x) failed = absurd failed
not_done Q (Err e) failed = refl

-- a device in doubt is no batch in doubt
pub not_batch : (journal : Journal) → journal.doubt ≡ Device → journal.doubt ≡ Batch → ⊥
not_batch journal known is = cc
