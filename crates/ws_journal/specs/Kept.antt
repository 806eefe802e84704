-- What the journal's writes leave of the device that counts (own).
use Rattle.std.specs.Prelude.{◌≡◌, ◌≢◌, ◌⊎◌, ℕ, ◌≤◌, List, ◌∷◌, ◌++◌, length}
use Rattle.ws_disk.specs.Crash.{SameBefore}

-- this, and then a gate that isn't open
pub record IsShut (front file : List ℕ) : Type 0 where
  pub gate : ℕ
  pub after : List ℕ
  pub not_open : gate ≢ 1
  pub is : file ≡ front ++ gate ∷ after

-- this, then any gate, a whole record behind it, and a next gate that is shut
pub record IsInDoubt (front text file : List ℕ) : Type 0 where
  pub gate : ℕ
  pub after : List ℕ
  pub is : file ≡ front ++ gate ∷ text ++ 0 ∷ after

-- this, or this with an open record behind it, and then a gate that isn't open
abbrev pub IsWithOrWithout : List ℕ → List ℕ → List ℕ → Type 0
IsWithOrWithout front text file = IsShut front file ⊎ IsShut (front ++ 1 ∷ text) file

-- the bytes before this place stay, and none goes away
pub record Keeps (place : ℕ) (old new : List ℕ) : Type 0 where
  pub before : SameBefore place old new
  pub no_shorter : length old ≤ length new

-- an image after a step
abbrev pub After : (List ℕ → List ℕ → Type 0) → (List ℕ → Type 0) → List ℕ → Type 0
After step images image = (earlier : List ℕ) × images earlier × step earlier image

-- each of these images is like that
abbrev pub Each : (List ℕ → Type 0) → (List ℕ → Type 0) → Type 0
Each images P = (image : List ℕ) → images image → P image

-- it has that many bytes, or more
abbrev pub Reaches : ℕ → List ℕ → Type 0
Reaches size image = size ≤ length image
