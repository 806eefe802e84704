use Rattle.std.proofs.Common.{◌≡◌, ◌<◌, ◌≤◌, ℕ, get_or, length, bit_xor}
use Rattle.ws_hmac.proofs.keyed.xor_all.Given as goal

abbrev pub invariant-loop-byte : goal.invariant-loop-byte
invariant-loop-byte l = record {
  same_length : length l.bytes ≡ length l.fn.bytes;
  changed : (k : ℕ) → k < l.byte-index → get_or l.bytes k 0 ≡ bit_xor (get_or l.fn.bytes k 0) l.pad;
  unchanged : (k : ℕ) → l.byte-index ≤ k → get_or l.bytes k 0 ≡ get_or l.fn.bytes k 0;
}
