-- The signature of a pushed body, as the field X-Hub-Signature has it (WebSub section 7.1).
use Rattle.std.specs.Prelude.{ℕ, Bool, ◌&&◌, List, [], ◌∷◌, ◌++◌, codes, take, drop, length, bytes_eq}
use Rattle.std.specs.List.{list_any}
use Rattle.std.specs.Str.{str_to_ascii_lowercase}
use Rattle.sha1.specs.Sha1.{sha1}
use Rattle.sha2.specs.Sha256.{sha256}
use Rattle.sha2.specs.Sha512.{sha384, sha512}
use Rattle.hex.specs.Hex.{encode_lower}
use Rattle.ws_model.specs.declared.event.Alg.{Alg}
use Rattle.ws_model.specs.declared.event.Alg.TheVariants.{Sha1, Sha256, Sha384, Sha512}
use Rattle.ws_hmac.specs.Hmac.{hmac_of}

-- the name of a method
abbrev pub method_of : Alg → List ℕ
method_of Sha1 = codes "sha1"
method_of Sha256 = codes "sha256"
method_of Sha384 = codes "sha384"
method_of Sha512 = codes "sha512"

-- what stands before the digits
abbrev pub prefix_of : Alg → List ℕ
prefix_of alg = method_of alg ++ codes "="

-- the HMAC of a method (FIPS 180-4 for the hashes and the bytes of their blocks)
abbrev pub hmac_by : Alg → List ℕ → List ℕ → List ℕ
hmac_by Sha1 secret body = hmac_of sha1 64 secret body
hmac_by Sha256 secret body = hmac_of sha256 64 secret body
hmac_by Sha384 secret body = hmac_of sha384 128 secret body
hmac_by Sha512 secret body = hmac_of sha512 128 secret body

-- method=digits, the HMAC in lower-case hexadecimal digits
abbrev pub sign : Alg → List ℕ → List ℕ → List ℕ
sign alg secret body = prefix_of alg ++ encode_lower (hmac_by alg secret body)

-- The header is the method, `=`, and the digits of the signature in either case.
abbrev pub is_signed_by : Alg → List ℕ → List ℕ → List ℕ → Bool
is_signed_by alg header secret body =
    let n = length (prefix_of alg) in
    bytes_eq (take n header) (prefix_of alg)
    && bytes_eq (str_to_ascii_lowercase (drop n header)) (encode_lower (hmac_by alg secret body))

-- The header is a signature of the body by one of the four methods.
abbrev pub is_signature : List ℕ → List ℕ → List ℕ → Bool
is_signature header secret body =
    list_any (λ alg. is_signed_by alg header secret body) (Sha1 ∷ Sha256 ∷ Sha384 ∷ Sha512 ∷ [])
