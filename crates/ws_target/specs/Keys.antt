-- The key of a topic or a callback, the first fault of a text that has none, and resolved links.
use Rattle.std.specs.Prelude.{◌≡◌, ℕ, ◌≤◌, Bool, true, false, not, ◌&&◌, ◌||◌, nat_lt, List, length, codes, bytes_eq, Option, Some, None, option_map, option_and_then, Result, Ok, Err, if◌then◌else◌}
use Rattle.url.specs.Parts.{Parts, has_credentials}
use Rattle.ws_model.specs.Key.{is_key}
use Rattle.ws_target.specs.declared.fault.TargetFault.{TargetFault}
use Rattle.ws_target.specs.declared.fault.TargetFault.TheVariants.{TooLong, NotUrl, SchemeNotServed, UserInfo}
use Rattle.ws_target.specs.Address.{url_against, url_of, parts_of, key_text}

-- http, and where there is a gateway also https (own)
abbrev pub is_served : Bool → List ℕ → Bool
is_served gateway scheme = bytes_eq scheme (codes "http") || (gateway && bytes_eq scheme (codes "https"))

-- the key of a URL, or its first fault
abbrev pub key_of_url : Bool → Option Parts → Result (List ℕ) TargetFault
key_of_url gateway None = Err NotUrl
key_of_url gateway (Some url) =
    if not (is_served gateway url.scheme) then Err SchemeNotServed
    else (if has_credentials url then Err UserInfo
    else Ok (key_text url))

-- The key of a text, or its first fault: more than 2,048 bytes; no URL; a scheme that isn't served;
-- a user name that isn't empty, or a password (own).
unfoldable pub key_or_fault : Bool → List ℕ → Result (List ℕ) TargetFault
key_or_fault gateway text =
    if nat_lt 2048 (length text) then Err (TooLong (length text))
    else key_of_url gateway (url_of text)

-- the text without fragment of what a reference leads to from a base, if both are URLs
unfoldable pub joined : List ℕ → List ℕ → Option (List ℕ)
joined base reference =
    option_and_then (λ from. option_map key_text (url_against (Some from) reference)) (url_of base)

-- a key of at most 2,048 bytes is its own key, with the gateway, and without it where its scheme is
-- served
abbrev pub KeyIsItsOwn : Type 0
KeyIsItsOwn =
    (key : List ℕ) → is_key key ≡ true → length key ≤ 2048
    → (key_or_fault true key ≡ Ok key)
    × (is_served false (parts_of key).scheme ≡ true → key_or_fault false key ≡ Ok key)
