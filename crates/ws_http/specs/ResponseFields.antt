-- What the fields of a response's head say (RFC 9110, sections 5.3 and 8.6; RFC 9112, section 6.3).
use Rattle.std.specs.Prelude.{ℕ, ◌-◌, length, get_or, Bool, true, false, not, ◌&&◌, ◌||◌, if◌then◌else◌, ◌==◌, nat_lt, List, [], ◌∷◌, ◌++◌, Option, Some, None, option_map, codes}
use Rattle.std.specs.List.{flat_map, list_all, slice_split}
use Rattle.httparse.specs.Grammar.{trim_ows, is_ows, ResponseHead, status_code}
use Rattle.ws_model.specs.declared.reply.Reply.{Reply}
use Rattle.ws_http.specs.declared.fed.Need.{Need}
use Rattle.ws_http.specs.declared.fed.Need.TheVariants as need
use Rattle.ws_http.specs.declared.extent.Extent.{Extent}
use Rattle.ws_http.specs.declared.extent.Extent.TheVariants as extent
use Rattle.ws_http.specs.Fields.{is_named, how_many, first_value, all_are, length_value, fields_of}
use Rattle.std.specs.Prelude.{take}

-- the values of the fields of that name, in their order
abbrev pub values_of : List ℕ → List (List ℕ × List ℕ) → List (List ℕ)
values_of name [] = []
values_of name (f ∷ fs) = if is_named name f then f.1 ∷ values_of name fs else values_of name fs

-- the values behind a first one, each behind `, `
abbrev pub joined_behind : List (List ℕ) → List ℕ
joined_behind values = flat_map (λ v. codes ", " ++ v) values

-- the values joined by `, ` (RFC 9110, section 5.3)
abbrev pub joined : List (List ℕ) → List ℕ
joined [] = []
joined (v ∷ vs) = v ++ joined_behind vs

-- the value, or nothing where there is none
abbrev pub or_empty : Option (List ℕ) → List ℕ
or_empty None = []
or_empty (Some value) = value

-- the number is that one
abbrev pub is_number : ℕ → Option ℕ → Bool
is_number n None = false
is_number n (Some m) = m == n

-- the element of a list, without the white space at its ends, writes that number
abbrev pub writes : ℕ → List ℕ → Bool
writes n element = is_number n (length_value (trim_ows element))

-- each element between the commas of the list writes that number (RFC 9110, sections 5.6.1 and 8.6)
abbrev pub all_write : ℕ → List ℕ → Bool
all_write n value = list_all (writes n) (slice_split (λ b. b == 44) value)

-- a Content-Length that isn't that number, or a list of it
abbrev pub is_other_length : ℕ → List ℕ × List ℕ → Bool
is_other_length n field = is_named (codes "content-length") field && not (all_write n field.1)

-- each Content-Length is that number, or a list of it
abbrev pub all_lengths : ℕ → List (List ℕ × List ℕ) → Bool
all_lengths n [] = true
all_lengths n (f ∷ fs) = if is_other_length n f then false else all_lengths n fs

-- the bytes before the first comma
abbrev pub until_comma : List ℕ → List ℕ
until_comma [] = []
until_comma (b ∷ bs) = if b == 44 then [] else b ∷ until_comma bs

-- whether a space or a tab stands at the place
abbrev pub has_blank : List ℕ → ℕ → Bool
has_blank text at = nat_lt at (length text) && is_ows (get_or text at 0)

-- whether a space or a tab stands before the place
abbrev pub ends_blank : List ℕ → ℕ → Bool
ends_blank text end = nat_lt 0 end && has_blank text (end - 1)

-- whether a byte other than a comma stands at the place
abbrev pub goes_on : List ℕ → ℕ → Bool
goes_on value at = nat_lt at (length value) && not (get_or value at 0 == 44)

-- the number, where each Content-Length is it
abbrev pub agreed : Option ℕ → List (List ℕ × List ℕ) → Option ℕ
agreed None fields = None
agreed (Some n) fields = if all_lengths n fields then Some n else None

-- the first number that a Content-Length writes
abbrev pub first_length : List (List ℕ × List ℕ) → Option ℕ
first_length fields = length_value (trim_ows (until_comma (or_empty (first_value (codes "content-length") fields))))

-- 204 and 304 have no body (RFC 9110, sections 6.4.1, 15.3.5 and 15.4.5)
abbrev pub is_bodiless : ℕ → Bool
is_bodiless code = (code == 204) || (code == 304)

-- How long the body of a response is, where its head says so in a sound way (RFC 9112, section 6.3):
-- none by its code; chunked, where each Transfer-Encoding is that alone; the one number that each
-- Content-Length writes; or up to the end of the connection.
unfoldable pub response_extent : ℕ → List (List ℕ × List ℕ) → Option Extent
response_extent code fields =
    if is_bodiless code then Some (extent.Fixed 0)
    else if nat_lt 0 (how_many (codes "transfer-encoding") fields)
    then (if all_are (codes "transfer-encoding") (codes "chunked") fields then Some extent.Chunked else None)
    else if nat_lt 0 (how_many (codes "content-length") fields)
    then option_map extent.Fixed (agreed (first_length fields) fields)
    else Some extent.Lasting

-- the part of a body that is kept: nothing, the first 41 bytes, or all
abbrev pub kept_of : Need → List ℕ → List ℕ
kept_of need.Status body = []
kept_of need.Short body = take 41 body
kept_of need.Full body = body

-- a reply that tells its fields
abbrev pub told_reply : ℕ → List (List ℕ × List ℕ) → List ℕ → Reply
told_reply code fields body = record {
  code = code;
  media = or_empty (first_value (codes "content-type") fields);
  coding = or_empty (first_value (codes "content-encoding") fields);
  links = joined (values_of (codes "link") fields);
  body = body;
}

-- a reply that tells its status alone
abbrev pub bare_reply : ℕ → Reply
bare_reply code = record { code = code; media = []; coding = []; links = []; body = [] }

-- the reply that is asked for, of a code, fields and a body
abbrev pub reply_by : Need → ℕ → List (List ℕ × List ℕ) → List ℕ → Reply
reply_by need.Status code fields body = bare_reply code
reply_by need.Short code fields body = told_reply code fields (take 41 body)
reply_by need.Full code fields body = told_reply code fields body

-- the reply that is asked for, of a head and a body
abbrev pub reply_of : Need → ResponseHead → List ℕ → Reply
reply_of need head body = reply_by need (status_code head) (fields_of head.fields) body
