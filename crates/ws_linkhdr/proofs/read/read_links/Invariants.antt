use Rattle.std.proofs.Common.{take}
use Rattle.ws_linkhdr.proofs.Places.{SoFar}
use Rattle.ws_linkhdr.proofs.read.read_links.Given as goal

-- the bytes so far led to this state, with these items
abbrev pub invariant-loop-at : goal.invariant-loop-at
invariant-loop-at l = SoFar (take l.at l.field) l.state l.items.items
