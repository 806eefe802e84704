use Rattle.std.proofs.Common.{◌≡◌, ◌-◌, ◌≤◌, length, take, drop, ◌++◌}
use Rattle.ws_front.specs.Rules.{until_semicolon}
use Rattle.ws_front.proofs.head.until_semicolon.Given as goal

-- no semicolon stands before the place
abbrev pub invariant-bytes : goal.invariant-bytes
invariant-bytes l = (l.end ≤ length l.value) × (take l.end l.value ++ until_semicolon (drop l.end l.value) ≡ until_semicolon l.value)

abbrev pub decreases-bytes : goal.decreases-bytes
decreases-bytes l = length l.value - l.end
