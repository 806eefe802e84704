use Rattle.std.proofs.Common.{◌≡◌, ◌-◌, ◌≤◌, length, take, drop, ◌++◌}
use Rattle.ws_http.specs.ResponseFields.{until_comma}
use Rattle.ws_http.proofs.extent.first_element.Given as goal

-- no comma stands before the place
abbrev pub invariant-bytes : goal.invariant-bytes
invariant-bytes l = (l.end ≤ length l.value) × (take l.end l.value ++ until_comma (drop l.end l.value) ≡ until_comma l.value)

abbrev pub decreases-bytes : goal.decreases-bytes
decreases-bytes l = length l.value - l.end
