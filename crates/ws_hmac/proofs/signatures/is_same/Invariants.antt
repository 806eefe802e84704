use Rattle.std.proofs.Common.{◌≡◌, ◌&&◌, ◌==◌, drop, bytes_eq}
use Rattle.ws_hmac.proofs.signatures.is_same.Given as goal

abbrev pub invariant-loop-i : goal.invariant-loop-i
invariant-loop-i l = ((l.difference == 0) && bytes_eq (drop l.i l.found) (drop l.i l.wanted)) ≡ bytes_eq l.found l.wanted
