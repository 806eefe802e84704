use Rattle.std.proofs.Common.{◌≡◌, ◌<◌, ◌^◌, drop}
use Rattle.ws_http.specs.Fields.{digits_after}
use Rattle.ws_http.proofs.head.length_of.Given as goal

-- the digits that are left write on behind the number so far
abbrev pub invariant-loop-byte : goal.invariant-loop-byte
invariant-loop-byte l =
    (digits_after l.number (drop l.byte-index l.value) ≡ digits_after 0 l.value) × (l.number < 10 ^ l.byte-index)
