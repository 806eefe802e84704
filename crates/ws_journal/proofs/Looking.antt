-- How calls that write nothing join.
use Rattle.std.proofs.Common.{◌≡◌, ℕ, ◌≤◌, ◌↔◌, List, refl, ◌∙◌, arith}
use Rattle.ws_disk.specs.Crash.{NoMore, Elapses}
use Rattle.ws_disk.proofs.Goes.{started}
use Rattle.ws_journal.specs.Looks.{OnlyReads}
use Rattle.ws_journal.proofs.Moments.{one_call, then_run, weaker}

module _ {D : Type 0} (honest : D → Type 0) (seen : D → List ℕ) (moment : D → ℕ) (images : D → ℕ → List ℕ → Type 0) (faults : D → ℕ) where
  -- no call
  pub no_call : (old : D) → OnlyReads honest seen moment images faults old old
  no_call old = record {
    honesty = (λ h. h, λ h. h);
    unwritten = λ h. record { same = refl; crash = started moment images old (images old (moment old)) (λ image now. now); calm = λ image now. now };
    later = omega arith;
  }

  -- one call
  pub a_call : (old new : D) → honest new ↔ honest old → seen new ≡ seen old → (honest old → NoMore (images old (moment old)) (images new (moment new)))
      → (honest old → Elapses (moment old) (moment new) (images old) (images new)) → faults old ≤ faults new → OnlyReads honest seen moment images faults old new
  a_call old new same_honest same calm time later = record {
    honesty = same_honest;
    unwritten = λ h. record { same = same; crash = one_call moment images old new (images old (moment old)) (λ image now. now) (time h) (calm h); calm = calm h };
    later = later;
  }

  -- calls, and then further ones
  pub then_calls : (old mid new : D) → OnlyReads honest seen moment images faults old mid → OnlyReads honest seen moment images faults mid new → OnlyReads honest seen moment images faults old new
  then_calls old mid new first second = record {
    honesty = (λ h. first.honesty.0 (second.honesty.0 h), λ h. second.honesty.1 (first.honesty.1 h));
    unwritten = λ h.
        let one = first.unwritten h in
        let two = second.unwritten (first.honesty.1 h) in
        record {
          same = two.same ∙ one.same;
          crash = then_run moment images old mid new (images old (moment old)) one.crash (weaker moment images mid new (images mid (moment mid)) (images old (moment old)) one.calm two.crash);
          calm = λ image now. one.calm image (two.calm image now);
        };
    later = omega (arith, first.later, second.later);
  }
