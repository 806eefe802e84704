-- The device that counts stays as long as the journal's tail says.
use Rattle.std.proofs.Common.{◌≡◌, ◌↔◌, ℕ, ◌+◌, ◌≤◌, List, ◌++◌, length, take, drop, Result, Ok, Err, OnOk, OnErr, refl, sym, ◌∙◌, subst, arith, length-append, length-drop, length-take}
use Rattle.ws_disk.specs.Crash.{overwritten, Torn, LeavesOnly}
use Rattle.ws_disk.specs.declared.disk.DiskFailed.{DiskFailed}
use Rattle.ws_journal.specs.declared.store.Edition.TheVariants.{Second}
use Rattle.ws_journal.specs.declared.store.Side.{Side}
use Rattle.ws_journal.specs.declared.store.Store.{Store}
use Rattle.ws_journal.specs.declared.journal.Journal.{Journal}
use Rattle.ws_journal.specs.Text.{records, front}
use Rattle.ws_journal.specs.Kept.{After, Each, Keeps, Reaches}
use Rattle.ws_journal.specs.Made.{IsMade}
use Rattle.ws_journal.specs.Stands.{counting, other, HasTail}
use Rattle.ws_journal.specs.Replaced.{IsNext}
use Rattle.ws_journal.proofs.Files.{shut_within}
use Rattle.ws_journal.proofs.Moments.{at_end}
use Rattle.ws_journal.proofs.Opening.{length-front}

-- a write shortens nothing
pub written_longer : (at : ℕ) (bytes file : List ℕ) → length file ≤ length (overwritten at bytes file)
written_longer at bytes file =
    let rest = drop (at + length bytes) file in
    omega (arith, length-append (take at file ++ bytes) rest, length-append (take at file) bytes, length-take at file, length-drop (at + length bytes) file)

module _ {D : Type 0} (moment : D → ℕ) (images : D → ℕ → List ℕ → Type 0) (size : ℕ) (old new : D)
    (grow : (t later : ℕ) (image : List ℕ) → t ≤ later → images new later image → images new t image) (each : Each (images old (moment old)) (Reaches size)) where
  -- nor does a run of writes behind a place
  pub keeps_reach : (place : ℕ) → LeavesOnly moment images old new (After (Keeps place) (images old (moment old))) → Each (images new (moment new)) (Reaches size)
  keeps_reach place run image now =
      let after = at_end moment images old new (After (Keeps place) (images old (moment old))) grow run image now in
      omega (arith, each after.0 after.1, after.2.no_shorter)

  -- nor does a write of which any part was done
  pub torn_reach : (place n : ℕ) → LeavesOnly moment images old new (After (Torn place n) (images old (moment old))) → Each (images new (moment new)) (Reaches size)
  torn_reach place n run image now =
      let after = at_end moment images old new (After (Torn place n) (images old (moment old))) grow run image now in
      omega (arith, each after.0 after.1, after.2.no_shorter)

module _ {D : Type 0} (honest : D → Type 0) (moment : D → ℕ) (images : D → ℕ → List ℕ → Type 0) (journal after : Journal) (old new : Store D) (there : HasTail honest moment images journal old) where
  -- after calls of the device that counts
  pub tail_moved : (side : Side) → journal.side ≡ side → after.side ≡ journal.side → (honest (counting side new) ↔ honest (counting side old))
      → (honest (counting side old) → Each (images (counting side old) (moment (counting side old))) (Reaches journal.tail) → Each (images (counting side new) (moment (counting side new))) (Reaches after.tail))
      → HasTail honest moment images after new
  tail_moved side is same honesty step = λ now.
      let here = subst (λ (s : Side). honest (counting s new)) (same ∙ is) now in
      let before = honesty.0 here in
      let was = subst (λ (s : Side). honest (counting s old) → Each (images (counting s old) (moment (counting s old))) (Reaches journal.tail)) is there before in
      subst (λ (s : Side). Each (images (counting s new) (moment (counting s new))) (Reaches after.tail)) (sym (same ∙ is)) (step before was)

  -- while the device that counts isn't touched
  pub tail_stays : after.side ≡ journal.side → after.tail ≡ journal.tail → counting journal.side new ≡ counting journal.side old → HasTail honest moment images after new
  tail_stays same ends untouched =
      tail_moved journal.side refl same (subst (λ (d : D). honest d ↔ honest (counting journal.side old)) (sym untouched) (λ h. h, λ h. h))
      (λ before each image now. omega (arith, ends, each image (subst (λ (d : D). images d (moment d) image) untouched now)))

  -- once the other device was to be made
  pub tail_next : (side next : Side) (generation tail : ℕ) (newer : List (List ℕ)) → journal.side ≡ side → tail ≡ 18 + length (records Second newer) → counting side new ≡ counting side old
      → counting next new ≡ other side new → (honest (other side new) ↔ honest (other side old)) → (result : Result (Unit {0}) DiskFailed) → OnOk result (IsNext next generation tail journal after)
      → OnErr result ((after.side ≡ journal.side) × (after.edition ≡ journal.edition) × (after.tail ≡ journal.tail))
      → (honest (other side old) → OnOk result (Each (images (other side new) (moment (other side new))) (IsMade generation newer))) → HasTail honest moment images after new
  tail_next side next generation tail newer is ends untouched here honesty (Ok done) switched not_done made = λ now.
      let device = subst (λ (s : Side). counting s new ≡ other side new) (sym switched.counts) here in
      let each = made (honesty.0 (subst honest device now)) in
      λ image left.
      let shut = each image (subst (λ (d : D). images d (moment d) image) device left) in
      omega (arith, switched.ends, ends, length-front Second generation newer, shut_within (front Second generation newer) image shut)
  tail_next side next generation tail newer is ends untouched here honesty (Err e) switched not_done made =
      tail_stays not_done.0 not_done.2 (subst (λ (s : Side). counting s new ≡ counting s old) (sym is) untouched)
