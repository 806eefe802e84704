-- What the objects in memory tell (own).
use Rattle.std.specs.Prelude.{ℕ, Bool, ◌==◌, ◌+◌, ◌||◌, nat_lt, length, List, drop}
use Rattle.std.specs.List.{list_any}
use Rattle.ws_link.specs.declared.memory.MemSource.{MemSource}
use Rattle.ws_link.specs.declared.memory.MemSink.{MemSink}

-- what is left of a source in memory
abbrev pub source_left : MemSource → List ℕ
source_left s = drop s.at s.content.items

abbrev pub source_pieces : MemSource → List ℕ
source_pieces s = s.pieces.items

-- the numbers of the calls that fail
abbrev pub source_failing : MemSource → List ℕ
source_failing s = s.failing.items

-- the number of the next call
abbrev pub source_calls : MemSource → ℕ
source_calls s = s.calls

-- the next call is one of those that fail
abbrev pub source_fails : MemSource → Bool
source_fails s = list_any (λ call. call == s.calls) s.failing.items

abbrev pub source_faults : MemSource → ℕ
source_faults s = s.faults

-- what a sink in memory was given
abbrev pub sink_written : MemSink → List ℕ
sink_written s = s.content.items

abbrev pub sink_room : MemSink → ℕ
sink_room s = s.room

abbrev pub sink_failing : MemSink → List ℕ
sink_failing s = s.failing.items

abbrev pub sink_calls : MemSink → ℕ
sink_calls s = s.calls

abbrev pub sink_faults : MemSink → ℕ
sink_faults s = s.faults

-- a piece of n bytes is refused: the next call is one of those that fail, or there is no room
abbrev pub sink_refuses : MemSink → ℕ → Bool
sink_refuses s n =
    list_any (λ call. call == s.calls) s.failing.items || nat_lt s.room (length s.content.items + n)
