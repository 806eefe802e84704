-- How runs of calls of a disk join.
use Rattle.std.proofs.Common.{⊎_elim, inl, inr, ℕ, ◌≤◌, List, Result, Ok, Err, OnOk, arith}
use Rattle.ws_disk.specs.Crash.{Follows, NoMore, Elapses, LeavesOnly}
use Rattle.ws_disk.proofs.Goes.{started, goes_on}
use Rattle.ws_journal.specs.Kept.{After, Each}

module _ {D : Type 0} (moment : D → ℕ) (images : D → ℕ → List ℕ → Type 0) where
  abbrev pub Now : D → List ℕ → Type 0
  Now disk = images disk (moment disk)

  -- one call
  pub one_call : (old new : D) (P : List ℕ → Type 0) → Each (Now old) P → Elapses (moment old) (moment new) (images old) (images new) → Each (Now new) P → LeavesOnly moment images old new P
  one_call old new P here time there = goes_on moment images old old new P (started moment images old P here) time there

  -- one run of calls after another
  pub then_run : (old mid new : D) (P : List ℕ → Type 0) → LeavesOnly moment images old mid P → LeavesOnly moment images mid new P → LeavesOnly moment images old new P
  then_run old mid new P first second = record {
    later = omega (arith, first.later, second.later);
    each = λ image left. ⊎_elim (first.each image) (λ (p : P image). p) (second.before (moment old) image first.later left);
    before = λ t image le left. ⊎_elim (first.before t image le) inr (second.before t image (omega (arith, le, first.later)) left);
  }

  -- less is said
  pub weaker : (old new : D) (P Q : List ℕ → Type 0) → ((image : List ℕ) → P image → Q image) → LeavesOnly moment images old new P → LeavesOnly moment images old new Q
  weaker old new P Q less run = record {
    later = run.later;
    each = λ image left. less image (run.each image left);
    before = λ t image le left. ⊎_elim inl (λ (p : P image). inr (less image p)) (run.before t image le left);
  }

  -- what a crash after the run may leave
  pub at_end : (old new : D) (P : List ℕ → Type 0) → ((t later : ℕ) (image : List ℕ) → t ≤ later → images new later image → images new t image) → LeavesOnly moment images old new P → Each (Now new) P
  at_end old new P grow run image now = run.each image (grow (moment old) (moment new) image run.later now)

  pub wrote : (step : List ℕ → List ℕ → Type 0) → ((file : List ℕ) → step file file) → (old new : D) → Elapses (moment old) (moment new) (images old) (images new)
      → Follows step (Now old) (Now new) → LeavesOnly moment images old new (After step (Now old))
  wrote step same old new time crash = one_call old new (After step (Now old)) (λ image now. (image, now, same image)) time crash

  -- a sync after a run
  pub then_sync : (old mid new : D) (P : List ℕ → Type 0) → LeavesOnly moment images old mid P → Each (Now mid) P → Elapses (moment mid) (moment new) (images mid) (images new)
      → NoMore (Now mid) (Now new) → LeavesOnly moment images old new P
  then_sync old mid new P run here time calm = then_run old mid new P run (one_call mid new P here time (λ image now. here image (calm image now)))

  -- one more step after a run of such steps
  pub then_wrote : (step : List ℕ → List ℕ → Type 0) → ((x y z : List ℕ) → step x y → step y z → step x z) → (old mid new : D)
      → LeavesOnly moment images old mid (After step (Now old)) → Each (Now mid) (After step (Now old)) → Elapses (moment mid) (moment new) (images mid) (images new)
      → Follows step (Now mid) (Now new) → LeavesOnly moment images old new (After step (Now old))
  then_wrote step both old mid new run here time crash =
      then_run old mid new (After step (Now old)) run (one_call mid new (After step (Now old)) here time (λ image now.
      let from = crash image now in
      let earlier = here from.0 from.1 in
      (earlier.0, earlier.1, both earlier.0 from.0 image earlier.2 from.2)))

pub Follows-map : (step weak : List ℕ → List ℕ → Type 0) (old new : List ℕ → Type 0) → ((x y : List ℕ) → step x y → weak x y) → Follows step old new → Follows weak old new
Follows-map step weak old new less crash image now = let from = crash image now in (from.0, from.1, less from.0 image from.2)

pub OnOk-map : {T E P Q : Type 0} (r : Result T E) → (P → Q) → OnOk r P → OnOk r Q
OnOk-map (Ok x) f holds = f holds
OnOk-map (Err e) f holds = tt
