-- What was read ahead of a device (own).
use Rattle.std.specs.Prelude.{◌≡◌, ℕ, List, take, drop}
use Rattle.ws_journal.specs.declared.ahead.Ahead.{Ahead}

-- what the block holds is this file's, from the block's place on
abbrev pub IsOf : List ℕ → Ahead → Type 0
IsOf file ahead = take ahead.held ahead.block.items ≡ take ahead.held (drop ahead.place file)

-- what the block holds is the device's, where it is honest
abbrev pub Shows : {D : Type 0} → (D → Type 0) → (D → List ℕ) → D → Ahead → Type 0
Shows honest seen disk ahead = honest disk → IsOf (seen disk) ahead
