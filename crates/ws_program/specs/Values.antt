-- The values of settings (own).
use Rattle.std.specs.Prelude.{ℕ, Bool, true, not, ◌&&◌, ◌==◌, nat_lt, nat_le, false, List, [], ◌∷◌, length, Option, Some, None, option_map, if◌then◌else◌, codes, bytes_eq}
use Rattle.std.specs.List.{list_all, before_first, after_first}
use Rattle.std.specs.Char.{is_ascii_digit, is_ascii_control}
use Rattle.std.specs.Result.{result_ok}
use Rattle.ws_model.specs.Decimal.{number_of}
use Rattle.ws_model.specs.declared.event.Alg.{Alg}
use Rattle.ws_model.specs.declared.event.Alg.TheVariants.{Sha1, Sha256, Sha384, Sha512}
use Rattle.ws_target.specs.Keys.{key_or_fault}

-- the key of a URL, as a hub with a gateway has it
unfoldable pub hub_key : List ℕ → Option (List ℕ)
hub_key text = result_ok (key_or_fault true text)

-- the hash of a word
abbrev pub alg_of : List ℕ → Option Alg
alg_of text =
    if bytes_eq text (codes "sha1") then Some Sha1
    else (if bytes_eq text (codes "sha256") then Some Sha256
    else (if bytes_eq text (codes "sha384") then Some Sha384
    else (if bytes_eq text (codes "sha512") then Some Sha512
    else None)))

-- a byte of a host: neither a space nor a control byte
abbrev pub is_host_byte : ℕ → Bool
is_host_byte byte = not (byte == 32) && not (is_ascii_control byte)

-- 1 to 255 such bytes
abbrev pub is_host : List ℕ → Bool
is_host host = nat_lt 0 (length host) && nat_le (length host) 255 && list_all is_host_byte host

-- decimal digits without a leading zero
abbrev pub is_number : List ℕ → Bool
is_number [] = false
is_number (digit ∷ digits) = not (digit == 48) && list_all is_ascii_digit (digit ∷ digits)

-- a port, from 1 to 65,535
unfoldable pub port_of : List ℕ → Option ℕ
port_of text = if is_number text && nat_le (number_of text) 65535 then Some (number_of text) else None

-- the parts before and behind the first `:`, which without one are the whole and nothing
abbrev pub host_part : List ℕ → List ℕ
host_part text = before_first (λ byte. byte == 58) text

abbrev pub port_part : List ℕ → List ℕ
port_part text = after_first (λ byte. byte == 58) text

-- `HOST:PORT`
unfoldable pub address_of : List ℕ → Option (List ℕ × ℕ)
address_of text =
    if is_host (host_part text) then option_map (λ port. (host_part text, port)) (port_of (port_part text))
    else None

-- what keys of topics may begin with: 1 to 2,048 bytes
abbrev pub is_allowed_prefix : List ℕ → Bool
is_allowed_prefix text = nat_lt 0 (length text) && nat_le (length text) 2048
