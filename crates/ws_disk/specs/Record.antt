-- What the record of a disk in memory says: what a read gives, and what a crash may leave (own).
use Rattle.std.specs.Prelude.{◌≡◌, ◌⊎◌, ℕ, ◌+◌, ◌≤◌, min, List, [], ◌∷◌, ◌++◌, length, take, drop, refl}
use Rattle.std.proofs.Common.{sym, ◌∙◌, ap, subst, inl, inr, arith, length-append, length-take, length-drop}
use Rattle.std.proofs.lemmas.Bool.{cases_lt}
use Rattle.std.proofs.lemmas.List.{take_at, take_all, drop_at, drop_all, append_assoc}
use Rattle.ws_disk.specs.declared.log.Call.{Call}
use Rattle.ws_disk.specs.declared.log.Call.TheVariants.{Wrote, Cut as Shortened, Synced, Idle}
use Rattle.ws_disk.specs.Crash.{overwritten, Torn, Cut, NoMore, Elapses}

-- a call with its bytes
pub data Step : Type 0 where
  wrote : ℕ → List ℕ → Step
  shortened : ℕ → Step
  synced : Step
  idle : Step

-- a recorded call, with its bytes from the front of these
abbrev pub step_of : Call → List ℕ → Step
step_of (Wrote at count) bytes = wrote at (take count bytes)
step_of (Shortened size) bytes = shortened size
step_of Synced bytes = synced
step_of Idle bytes = idle

-- how many bytes a call has in the record
abbrev pub count_of : Call → ℕ
count_of (Wrote at count) = count
count_of (Shortened size) = 0
count_of Synced = 0
count_of Idle = 0

abbrev pub count_all : List Call → ℕ
count_all [] = 0
count_all (call ∷ calls) = count_of call + count_all calls

-- Steps before the calls of a record, which has the oldest call and the oldest bytes first. The newest step comes first.
abbrev pub steps_after : List Step → List Call → List ℕ → List Step
steps_after past [] bytes = past
steps_after past (call ∷ calls) bytes = steps_after (step_of call bytes ∷ past) calls (drop (count_of call) bytes)

-- the steps of a record, the newest first
abbrev pub steps_of : List Call → List ℕ → List Step
steps_of = steps_after []

-- what a read gives of a disk that held these bytes at first
abbrev pub content_after : List ℕ → List Step → List ℕ
content_after first [] = first
content_after first (wrote at bytes ∷ past) = overwritten at bytes (content_after first past)
content_after first (shortened size ∷ past) = take size (content_after first past)
content_after first (synced ∷ past) = content_after first past
content_after first (idle ∷ past) = content_after first past

-- All that a crash now may leave: from what the last sync confirmed, through any part of each step since.
abbrev pub Leaves : List ℕ → List Step → List ℕ → Type 0
Leaves first [] image = image ≡ first
Leaves first (wrote at bytes ∷ past) image = (earlier : List ℕ) × Leaves first past earlier × Torn at (length bytes) earlier image
Leaves first (shortened size ∷ past) image = (earlier : List ℕ) × Leaves first past earlier × Cut size earlier image
Leaves first (synced ∷ past) image = image ≡ content_after first past
Leaves first (idle ∷ past) image = Leaves first past image

-- what a crash at some moment from t on might have left, where a moment is a number of calls
abbrev pub LeavesSince : List ℕ → List Step → ℕ → List ℕ → Type 0
LeavesSince first [] t image = (t ≤ 0) × Leaves first [] image
LeavesSince first (step ∷ past) t image = ((t ≤ length (step ∷ past)) × Leaves first (step ∷ past) image) ⊎ LeavesSince first past t image

-- a call that changes nothing that a crash may leave
pub record Calm (first first' : List ℕ) (old new : List Step) : Type 0 where
  pub crash : NoMore (LeavesSince first old (length old)) (LeavesSince first' new (length new))
  pub time : Elapses (length old) (length new) (LeavesSince first old) (LeavesSince first' new)

-- a whole write is one of the parts of it
pub Torn-overwritten : (at : ℕ) (bytes file : List ℕ) → Torn at (length bytes) file (overwritten at bytes file)
Torn-overwritten at bytes file =
    let front = length-take at file in
    let rest = length-drop (at + length bytes) file in
    let two = length-append (take at file) bytes in
    let all = length-append (take at file ++ bytes) (drop (at + length bytes) file) in
    record {
      before = ap (take (min at (length file))) (append_assoc (take at file) bytes (drop (at + length bytes) file)) ∙ take_at (take at file) (bytes ++ drop (at + length bytes) file) (min at (length file)) front;
      after = elim (cases_lt (length file) at) [
        | inl past ↦ drop_all (at + length bytes) (overwritten at bytes file) (omega arith) ∙ sym (drop_all (at + length bytes) file (omega arith))
        | inr within ↦ drop_at (take at file ++ bytes) (drop (at + length bytes) file) (at + length bytes) (omega arith)
      ];
      no_shorter = omega arith;
      no_longer = omega arith;
    }

-- a whole cut is one of the parts of it
pub Cut-take : (size : ℕ) (file : List ℕ) → Cut size file (take size file)
Cut-take size file =
    let long = length-take size file in
    record {
      before = take_all (min size (length file)) (take size file) (omega arith);
      no_shorter = omega arith;
      no_longer = omega arith;
    }

-- what a read gives is one of the images
pub Leaves-content : (first : List ℕ) (past : List Step) → Leaves first past (content_after first past)
Leaves-content first [] = refl
Leaves-content first (wrote at bytes ∷ past) = (content_after first past, Leaves-content first past, Torn-overwritten at bytes (content_after first past))
Leaves-content first (shortened size ∷ past) = (content_after first past, Leaves-content first past, Cut-take size (content_after first past))
Leaves-content first (synced ∷ past) = refl
Leaves-content first (idle ∷ past) = Leaves-content first past

pub LeavesSince-now : (first : List ℕ) (past : List Step) (t : ℕ) (image : List ℕ) → t ≤ length past → Leaves first past image → LeavesSince first past t image
LeavesSince-now first [] t image le now = (le, now)
LeavesSince-now first (step ∷ past) t image le now = inl (le, now)

pub LeavesSince-grow : (first : List ℕ) (past : List Step) (t later : ℕ) (image : List ℕ) → t ≤ later → LeavesSince first past later image → LeavesSince first past t image
LeavesSince-grow first [] t later image le left = (omega (arith, left.0), left.1)
LeavesSince-grow first (step ∷ past) t later image le (inl now) = inl (omega (arith, now.0), now.1)
LeavesSince-grow first (step ∷ past) t later image le (inr before) = inr (LeavesSince-grow first past t later image le before)

-- there is no moment past this one
LeavesSince-none : (first : List ℕ) (past : List Step) (t : ℕ) (image : List ℕ) → length past + 1 ≤ t → LeavesSince first past t image → ⊥
LeavesSince-none first [] t image le left = omega (arith, left.0)
LeavesSince-none first (step ∷ past) t image le (inl now) = omega (arith, now.0)
LeavesSince-none first (step ∷ past) t image le (inr before) = LeavesSince-none first past t image (omega arith) before

-- since this moment there are the images of now
pub Leaves-now : (first : List ℕ) (past : List Step) (image : List ℕ) → LeavesSince first past (length past) image → Leaves first past image
Leaves-now first [] image left = left.1
Leaves-now first (step ∷ past) image (inl now) = now.1
Leaves-now first (step ∷ past) image (inr before) = absurd (LeavesSince-none first past (length (step ∷ past)) image (omega arith) before)

pub content_image : (first content : List ℕ) (past : List Step) → content ≡ content_after first past → LeavesSince first past (length past) content
content_image first content past is = LeavesSince-now first past (length past) content (omega arith) (subst (Leaves first past) (sym is) (Leaves-content first past))
