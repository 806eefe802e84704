-- What a dial in memory tells, and which of its calls fail (own).
use Rattle.std.specs.Prelude.{ℕ, Bool, ◌||◌, ◌==◌, ◌+◌, nat_lt, List, [], ◌∷◌, take, drop, length, map}
use Rattle.std.specs.List.{list_any}
use Rattle.ws_link.specs.Dials.{DialContent}
use Rattle.ws_link.specs.MemoryLinks.{link_content}
use Rattle.ws_link.specs.declared.links.LinkCounts.{LinkCounts}
use Rattle.ws_link.specs.declared.memory_dials.MemDial.{MemDial}
use Rattle.ws_link.specs.declared.memory_links.MemLink.{MemLink}

-- the bytes cut into pieces of these lengths
abbrev pub cut_by : List ℕ → List ℕ → List (List ℕ)
cut_by bytes [] = []
cut_by bytes (n ∷ lengths) = take n bytes ∷ cut_by (drop n bytes) lengths

-- the links that were given back
abbrev pub dial_back : MemDial → List MemLink
dial_back dial = dial.back.items

-- what was dialled, and what was given back
abbrev pub dial_content : MemDial → DialContent
dial_content dial = record { dialed = cut_by dial.dialed.items dial.lengths.items; back = map link_content dial.back.items }

-- the links that are left
abbrev pub dial_left : MemDial → List MemLink
dial_left dial = dial.links.items

abbrev pub dial_counts_back : MemDial → LinkCounts
dial_counts_back dial = dial.counts_back

-- the number of the next call
abbrev pub dial_calls : MemDial → ℕ
dial_calls dial = dial.calls

abbrev pub dial_faults : MemDial → ℕ
dial_faults dial = dial.faults

-- the room for hosts and ports, and the numbers of the calls that fail
pub record DialPlan : Type 0 where
  pub room : ℕ
  pub failing : List ℕ

abbrev pub dial_plan : MemDial → DialPlan
dial_plan dial = record { room = dial.room; failing = dial.failing.items }

-- a host of so many bytes and a port don't fit the room
abbrev pub is_too_long : MemDial → ℕ → Bool
is_too_long dial n = nat_lt dial.room (length dial.dialed.items + n + 2)

-- a call for a host of so many bytes fails
abbrev pub dial_refuses : MemDial → ℕ → Bool
dial_refuses dial n =
    list_any (λ call. call == dial.calls) dial.failing.items || (length dial.links.items == 0) || is_too_long dial n
