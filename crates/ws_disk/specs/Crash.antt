-- What the calls of a disk do to the bytes that a read gives, and what a crash may leave of them (own).
use Rattle.std.specs.Prelude.{◌≡◌, ◌⊎◌, ℕ, ◌+◌, ◌≤◌, min, max, List, ◌++◌, length, take, drop}

-- the file with these bytes over what stood from that place on, and past the end
abbrev pub overwritten : ℕ → List ℕ → List ℕ → List ℕ
overwritten at bytes file = take at file ++ bytes ++ drop (at + length bytes) file

-- new begins with the bytes that old has before this place
abbrev pub SameBefore : ℕ → List ℕ → List ℕ → Type 0
SameBefore place old new = take (min place (length old)) new ≡ take place old

-- After any part of a write of n bytes: any bytes in the written range and past the old end, the size
-- between the old and the new one, and all other bytes as they were.
pub record Torn (at n : ℕ) (old new : List ℕ) : Type 0 where
  pub before : SameBefore at old new
  pub after : drop (at + n) new ≡ drop (at + n) old
  pub no_shorter : length old ≤ length new
  pub no_longer : length new ≤ max (length old) (at + n)

-- After any part of a cut to this size: the bytes before it as they were, the size between the old and
-- the new one, and any bytes from the new size on.
pub record Cut (size : ℕ) (old new : List ℕ) : Type 0 where
  pub before : SameBefore size old new
  pub no_shorter : min size (length old) ≤ length new
  pub no_longer : length new ≤ max size (length old)

-- each image is an earlier image after a step
abbrev pub Follows : (List ℕ → List ℕ → Type 0) → (List ℕ → Type 0) → (List ℕ → Type 0) → Type 0
Follows step old new = (image : List ℕ) → new image → (earlier : List ℕ) × old earlier × step earlier image

-- there is no image that there wasn't before
abbrev pub NoMore : (List ℕ → Type 0) → (List ℕ → Type 0) → Type 0
NoMore old new = (image : List ℕ) → new image → old image

-- a crash leaves these bytes and nothing else
abbrev pub Only : List ℕ → (List ℕ → Type 0) → Type 0
Only file images = (image : List ℕ) → images image → image ≡ file

-- Time goes on: since an earlier moment there are the images of before, and those of now.
pub record Elapses (before now : ℕ) (past since : ℕ → List ℕ → Type 0) : Type 0 where
  pub later : before ≤ now
  pub nothing_else : (t : ℕ) (image : List ℕ) → t ≤ before → since t image → past t image ⊎ since now image
  pub keeps : (t : ℕ) (image : List ℕ) → t ≤ before → past t image → since t image

-- A crash at any moment since old leaves an image that has P.
pub record LeavesOnly {D : Type 0} (moment : D → ℕ) (images : D → ℕ → List ℕ → Type 0) (old new : D) (P : List ℕ → Type 0) : Type 0 where
  pub later : moment old ≤ moment new
  pub each : (image : List ℕ) → images new (moment old) image → P image
  -- for a run that began earlier
  pub before : (t : ℕ) (image : List ℕ) → t ≤ moment old → images new t image → images old t image ⊎ P image
