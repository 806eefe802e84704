-- How the images of a disk in memory go on with each call.
use Rattle.std.specs.Prelude.{◌≡◌, ◌⊎◌, ℕ, ◌≤◌, List, ◌∷◌, length, take, refl}
use Rattle.std.proofs.Common.{sym, ◌∙◌, ap, subst, inl, inr, arith}
use Rattle.std.proofs.lemmas.List.{take_min, take_all}
use Rattle.ws_disk.specs.Crash.{Torn, Cut, Follows, NoMore, Only, Elapses}
use Rattle.ws_disk.specs.Record.{Calm, Step, wrote, shortened, synced, idle, content_after, Leaves, LeavesSince, Leaves-content, LeavesSince-now, Leaves-now}

pub Calm-refl : (first : List ℕ) (past : List Step) → Calm first first past past
Calm-refl first past = record {
  crash = λ image now. now;
  time = record { later = omega arith; nothing_else = λ t image le left. inl left; keeps = λ t image le left. left };
}

-- any step, in time
pub Elapses-step : (first : List ℕ) (past : List Step) (step : Step) → Elapses (length past) (length (step ∷ past)) (LeavesSince first past) (LeavesSince first (step ∷ past))
Elapses-step first past step = record { later = omega arith; nothing_else = either; keeps = λ t image le left. inr left }
  where
    either : (t : ℕ) (image : List ℕ) → t ≤ length past → LeavesSince first (step ∷ past) t image → LeavesSince first past t image ⊎ LeavesSince first (step ∷ past) (length (step ∷ past)) image
    either t image le (inl now) = inr (inl (omega arith, now.1))
    either t image le (inr left) = inl left

pub Calm-idle : (first : List ℕ) (past : List Step) → Calm first first past (idle ∷ past)
Calm-idle first past = record {
  crash = λ image now. LeavesSince-now first past (length past) image (omega arith) (Leaves-now first (idle ∷ past) image now);
  time = Elapses-step first past idle;
}

pub NoMore-synced : (first : List ℕ) (past : List Step) → NoMore (LeavesSince first past (length past)) (LeavesSince first (synced ∷ past) (length (synced ∷ past)))
NoMore-synced first past image now =
    let is : image ≡ content_after first past = Leaves-now first (synced ∷ past) image now in
    LeavesSince-now first past (length past) image (omega arith) (subst (Leaves first past) (sym is) (Leaves-content first past))

pub Only-synced : (first : List ℕ) (past : List Step) → Only (content_after first past) (LeavesSince first (synced ∷ past) (length (synced ∷ past)))
Only-synced first past image now = Leaves-now first (synced ∷ past) image now

pub Follows-wrote : (first : List ℕ) (past : List Step) (at : ℕ) (bytes : List ℕ) → Follows (Torn at (length bytes)) (LeavesSince first past (length past)) (LeavesSince first (wrote at bytes ∷ past) (length (wrote at bytes ∷ past)))
Follows-wrote first past at bytes image now =
    let left = Leaves-now first (wrote at bytes ∷ past) image now in
    (left.0, LeavesSince-now first past (length past) left.0 (omega arith) left.1, left.2)

pub Follows-shortened : (first : List ℕ) (past : List Step) (size : ℕ) → Follows (Cut size) (LeavesSince first past (length past)) (LeavesSince first (shortened size ∷ past) (length (shortened size ∷ past)))
Follows-shortened first past size image now =
    let left = Leaves-now first (shortened size ∷ past) image now in
    (left.0, LeavesSince-now first past (length past) left.0 (omega arith) left.1, left.2)

-- no part of a write is one of its parts
pub Torn-refl : (at n : ℕ) (file : List ℕ) → Torn at n file file
Torn-refl at n file = record { before = take_min at file; after = refl; no_shorter = omega arith; no_longer = omega arith }

pub Cut-refl : (size : ℕ) (file : List ℕ) → Cut size file file
Cut-refl size file = record { before = take_min size file; no_shorter = omega arith; no_longer = omega arith }

pub Follows-none : (step : List ℕ → List ℕ → Type 0) (old new : List ℕ → Type 0) → ((file : List ℕ) → step file file) → NoMore old new → Follows step old new
Follows-none step old new same calm image now = (image, calm image now, same image)

-- after one call more, whose step is the newest of the record
module _ (first : List ℕ) (past new : List Step) where
  abbrev Now : List Step → List ℕ → Type 0
  Now steps = LeavesSince first steps (length steps)

  pub after_idle : new ≡ idle ∷ past → Calm first first past new
  after_idle is = subst (λ (steps : List Step). Calm first first past steps) (sym is) (Calm-idle first past)

  pub after_write : (at count : ℕ) (bytes : List ℕ) → count ≡ length bytes → new ≡ wrote at (take count bytes) ∷ past → Follows (Torn at (length bytes)) (Now past) (Now new)
  after_write at count bytes whole is =
      let same : take count bytes ≡ bytes = take_all count bytes (omega arith) in
      let newest : new ≡ wrote at bytes ∷ past = is ∙ ap (λ (b : List ℕ). wrote at b ∷ past) same in
      subst (λ (steps : List Step). Follows (Torn at (length bytes)) (Now past) (Now steps)) (sym newest) (Follows-wrote first past at bytes)

  pub after_cut : (size : ℕ) → new ≡ shortened size ∷ past → Follows (Cut size) (Now past) (Now new)
  after_cut size is = subst (λ (steps : List Step). Follows (Cut size) (Now past) (Now steps)) (sym is) (Follows-shortened first past size)

  pub after_sync : new ≡ synced ∷ past → NoMore (Now past) (Now new)
  after_sync is = subst (λ (steps : List Step). NoMore (Now past) (Now steps)) (sym is) (NoMore-synced first past)

  pub only_after_sync : (content : List ℕ) → content ≡ content_after first past → new ≡ synced ∷ past → Only content (Now new)
  only_after_sync content held is image now =
      Only-synced first past image (subst (λ (steps : List Step). Now steps image) is now) ∙ sym held
