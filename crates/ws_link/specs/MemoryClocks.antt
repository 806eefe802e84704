-- What the clocks tell (own).
use Rattle.std.specs.Prelude.{ℕ, zero, suc, ◌-◌, min, List, [], ◌∷◌, ◌++◌, length, get_or}
use Rattle.ws_link.specs.declared.clocks.SystemClock.{SystemClock}
use Rattle.ws_link.specs.declared.memory_clocks.MemClock.{MemClock}

-- how often the system's clock was asked, which is all that it tells
abbrev pub system_draws : SystemClock → ℕ
system_draws clock = clock.draws

abbrev pub clock_times : MemClock → List ℕ
clock_times clock = clock.times.items

abbrev pub clock_draws : MemClock → ℕ
clock_draws clock = clock.draws

-- what the draw of this number gives: the time there, behind the list the last one, and 0 where there is none
abbrev pub time_at : List ℕ → ℕ → ℕ
time_at times draw = get_or times (min (length times - 1) draw) 0

-- what so many draws gave
abbrev pub first_times : List ℕ → ℕ → List ℕ
first_times times zero = []
first_times times (suc draw) = first_times times draw ++ time_at times draw ∷ []

abbrev pub clock_given : MemClock → List ℕ
clock_given clock = first_times clock.times.items clock.draws
