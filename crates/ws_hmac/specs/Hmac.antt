-- The keyed hash of a body over any hash (RFC 2104, section 2). A message is a list of bytes.
use Rattle.std.specs.Prelude.{ℕ, ◌-◌, nat_lt, List, ◌++◌, length, map, replicate, bit_xor, if◌then◌else◌}

-- the key, hashed first where it is longer than a block
abbrev pub short_key : (List ℕ → List ℕ) → ℕ → List ℕ → List ℕ
short_key hash block key = if nat_lt block (length key) then hash key else key

-- bytes, filled with zeros up to a block
abbrev pub filled : ℕ → List ℕ → List ℕ
filled block bytes = bytes ++ replicate (block - length bytes) 0

-- each byte xor the byte of the pad
abbrev pub xor_pad : ℕ → List ℕ → List ℕ
xor_pad pad bytes = map (λ b. bit_xor b pad) bytes

-- H((K xor opad) ++ H((K xor ipad) ++ body)), where ipad is the byte 0x36 and opad the byte 0x5c, each as often as a
-- block has bytes
abbrev pub hmac_of : (List ℕ → List ℕ) → ℕ → List ℕ → List ℕ → List ℕ
hmac_of hash block key body =
    let k = filled block (short_key hash block key) in
    hash (xor_pad 0x5c k ++ hash (xor_pad 0x36 k ++ body))
