-- What the fields of a head say (RFC 9110, section 5; RFC 9112, sections 3.2 and 6.3). A field is
-- its name and its value, which has no white space at its ends.
use Rattle.std.specs.Prelude.{ℕ, ◌+◌, ◌-◌, ◌*◌, Bool, true, false, not, ◌&&◌, ◌||◌, if◌then◌else◌, ◌==◌, nat_lt, nat_le, List, [], ◌∷◌, length, map, Option, Some, None, option_map, codes}
use Rattle.std.specs.Char.{is_ascii_digit}
use Rattle.std.specs.Str.{str_eq_ignore_ascii_case}
use Rattle.httparse.specs.Grammar.{Field}
use Rattle.httparse.specs.Spans.{name_and_value}
use Rattle.ws_http.specs.declared.head.Framing.{Framing}
use Rattle.ws_http.specs.declared.head.Framing.TheVariants.{Fixed, Chunked}

-- a field of that name, whatever the case of its letters
abbrev pub is_named : List ℕ → List ℕ × List ℕ → Bool
is_named name field = str_eq_ignore_ascii_case field.0 name

-- how many fields of that name there are
abbrev pub how_many : List ℕ → List (List ℕ × List ℕ) → ℕ
how_many name [] = 0
how_many name (f ∷ fs) = if is_named name f then how_many name fs + 1 else how_many name fs

-- the value of the first field of that name
abbrev pub first_value : List ℕ → List (List ℕ × List ℕ) → Option (List ℕ)
first_value name [] = None
first_value name (f ∷ fs) = if is_named name f then Some f.1 else first_value name fs

-- a field of that name with another value
abbrev pub is_other_value : List ℕ → List ℕ → List ℕ × List ℕ → Bool
is_other_value name value field = is_named name field && not (str_eq_ignore_ascii_case field.1 value)

-- each field of that name has that value, whatever the case of its letters
abbrev pub all_are : List ℕ → List ℕ → List (List ℕ × List ℕ) → Bool
all_are name value [] = true
all_are name value (f ∷ fs) = if is_other_value name value f then false else all_are name value fs

-- the number that decimal digits write behind n, where all bytes are digits
abbrev pub digits_after : ℕ → List ℕ → Option ℕ
digits_after n [] = Some n
digits_after n (b ∷ bs) = if is_ascii_digit b then digits_after (n * 10 + (b - 48)) bs else None

-- the number that 1 to 18 digits write
abbrev pub length_value : List ℕ → Option ℕ
length_value value = if nat_lt 0 (length value) && nat_le (length value) 18 then digits_after 0 value else None

-- the length that one Content-Length declares
abbrev pub declared_length : Option (List ℕ) → Option Framing
declared_length None = Some (Fixed 0)
declared_length (Some value) = option_map Fixed (length_value value)

-- How long the body of a request is, where its fields say so in a sound way (RFC 9112, section 6.3):
-- chunked by Transfer-Encoding alone, or of the length of the one Content-Length, or else empty.
unfoldable pub request_framing : List (List ℕ × List ℕ) → Option Framing
request_framing fields =
    if nat_lt 0 (how_many (codes "transfer-encoding") fields)
    then (
    if nat_lt 0 (how_many (codes "content-length") fields) || not (all_are (codes "transfer-encoding") (codes "chunked") fields)
    then None else Some Chunked)
    else (
    if nat_lt 1 (how_many (codes "content-length") fields)
    then None else declared_length (first_value (codes "content-length") fields))

-- Each HTTP/1.1 request has exactly one Host field (RFC 9112, section 3.2).
unfoldable pub has_host : ℕ → List (List ℕ × List ℕ) → Bool
has_host minor fields = (minor == 0) || (how_many (codes "host") fields == 1)

-- the fields of a head, by name and value
abbrev pub fields_of : List Field → List (List ℕ × List ℕ)
fields_of fields = map name_and_value fields

-- the value is that one, whatever the case of its letters
abbrev pub is_value : Option (List ℕ) → List ℕ → Bool
is_value None value = false
is_value (Some v) value = str_eq_ignore_ascii_case v value

-- a framing by which there is a body to wait for
abbrev pub has_body : Option Framing → Bool
has_body None = false
has_body (Some (Fixed n)) = nat_lt 0 n
has_body (Some Chunked) = true

-- The sender of an HTTP/1.1 request waits for an interim answer before it sends the body
-- (RFC 9110, section 10.1.1).
unfoldable pub expects_continue : ℕ → List (List ℕ × List ℕ) → Bool
expects_continue minor fields =
    (minor == 1) && is_value (first_value (codes "expect") fields) (codes "100-continue") && has_body (request_framing fields)
