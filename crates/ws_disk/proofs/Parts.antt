-- What stays of a file before a place.
use Rattle.std.proofs.Common.{◌≡◌, ℕ, ◌<◌, ◌≤◌, min, List, length, take, slice_index, sym, ◌∙◌, ap, arith, get_or-take}
use Rattle.ws_disk.specs.Crash.{SameBefore}

-- a place before it is as it was
pub same_place : (place k : ℕ) (old new : List ℕ) → k < place → k < length old → SameBefore place old new → slice_index new k ≡ slice_index old k
same_place place k old new low within same =
    sym (get_or-take (min place (length old)) new k 0 (omega arith)) ∙ ap (λ (l : List ℕ). slice_index l k) same ∙ get_or-take place old k 0 low

-- so is the whole front
pub same_front : (place : ℕ) (old new : List ℕ) → place ≤ length old → SameBefore place old new → take place new ≡ take place old
same_front place old new within same =
    let is : min place (length old) ≡ place = omega arith in
    ap (λ (n : ℕ). take n new) (sym is) ∙ same
