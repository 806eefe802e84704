-- A request that was written reads back as its parts (RFC 9112, sections 3, 5 and 6.3).
use Rattle.std.specs.Prelude.{◌≡◌, ℕ, ◌<◌, ◌≤◌, true, List, [], ◌∷◌, length, take, Some, codes, IsUtf8}
use Rattle.std.specs.List.{AllByRecursion}
use Rattle.httparse.specs.Grammar.{AllPass, IsToken, is_uri_byte, is_value_byte, trim_ows, RequestHead, ReadsRequest}
use Rattle.ws_model.specs.declared.bytes.Pair.{Pair}
use Rattle.ws_http.specs.declared.head.Framing.TheVariants as framing
use Rattle.ws_http.specs.Fields.{fields_of, has_host, request_framing}
use Rattle.ws_http.specs.Requests.{whole, IsRequest}
use Rattle.ws_http.specs.Texts.{request_text}

-- a name that is a token, and a value without white space at its ends and without control bytes but tabs
pub record IsWritable (p : Pair) : Type 0 where
  pub name : IsToken p.name
  pub value : AllPass is_value_byte p.value
  pub trimmed : trim_ows p.value ≡ p.value

-- the fields of a request that is written, by name and value
abbrev pub written : List Pair → List (List ℕ × List ℕ)
written [] = (codes "Connection", codes "close") ∷ []
written (p ∷ ps) = (p.name, p.value) ∷ written ps

-- Parts that make a request: a method that is a token, a target of visible bytes in UTF-8, fields that can be
-- written, with one Host among them, and a Content-Length that is the body's length, or none and no body.
pub record IsRequestOf (method target : List ℕ) (fields : List Pair) (body : List ℕ) : Type 0 where
  pub token : IsToken method
  pub uri : (0 < length target) × AllPass is_uri_byte target
  pub target_text : IsUtf8 target
  pub writable : AllByRecursion IsWritable fields
  pub host : has_host 1 (written fields) ≡ true
  pub framed : request_framing (written fields) ≡ Some (framing.Fixed (length body))

-- the bytes begin with a head of these parts
pub record ReadsParts (bytes method target : List ℕ) (fields : List Pair) : Type 0 where
  pub head : RequestHead
  pub rest : List ℕ
  pub reads : ReadsRequest (take 16384 bytes) head rest
  pub same_method : head.method ≡ method
  pub same_target : head.target ≡ target
  pub same_fields : fields_of head.fields ≡ written fields

-- What is written of parts that make a request, with a head within 16,384 bytes and all within the room, reads
-- back as these parts, and is a whole message with this body.
abbrev pub ReadsBack : Type 0
ReadsBack =
    (room : ℕ) (method target : List ℕ) (fields : List Pair) (body : List ℕ) → IsRequestOf method target fields body
    → length (request_text method target fields []) ≤ 16384 → length (request_text method target fields body) ≤ room
    → ReadsParts (request_text method target fields body) method target fields
    × IsRequest room (request_text method target fields body) (whole (length (request_text method target fields body)) body)
