-- The bytes of the requests and the answers that are written (RFC 9112, sections 3, 4 and 5).
use Rattle.std.specs.Prelude.{ℕ, ◌+◌, Bool, if◌then◌else◌, ◌==◌, ◌||◌, List, [], ◌++◌, length, codes}
use Rattle.std.specs.List.{flat_map}
use Rattle.std.specs.Fmt.{decimal}
use Rattle.ws_model.specs.declared.bytes.Pair.{Pair}

-- field-line = field-name ":" OWS field-value, and the line's end (RFC 9112, section 5)
abbrev pub field_line : Pair → List ℕ
field_line p = p.name ++ codes ": " ++ p.value ++ codes "\r\n"

-- A request: its line, the fields, `Connection: close`, an empty line, and the body (RFC 9112, sections 3 and 9.6).
unfoldable pub request_text : List ℕ → List ℕ → List Pair → List ℕ → List ℕ
request_text method target fields body =
    method ++ codes " " ++ target ++ codes " HTTP/1.1\r\n"
    ++ flat_map field_line fields
    ++ codes "Connection: close\r\n\r\n" ++ body

-- The phrase of an answer's code (RFC 9110, section 15; 507 is of RFC 4918, section 11.5).
abbrev pub phrase : ℕ → List ℕ
phrase code =
    if code == 202 then codes "Accepted"
    else if code == 400 then codes "Bad Request"
    else if code == 404 then codes "Not Found"
    else if code == 405 then codes "Method Not Allowed"
    else if code == 413 then codes "Content Too Large"
    else if code == 415 then codes "Unsupported Media Type"
    else if code == 500 then codes "Internal Server Error"
    else if code == 503 then codes "Service Unavailable"
    else if code == 507 then codes "Insufficient Storage"
    else []

-- the codes of the answers (own)
abbrev pub is_answer_code : ℕ → Bool
is_answer_code code =
    (code == 202) || (code == 400) || (code == 404) || (code == 405) || (code == 413)
    || (code == 415) || (code == 500) || (code == 503) || (code == 507)

-- the field that a 405 has (RFC 9110, section 10.2.1)
abbrev pub allow_line : Bool → List ℕ
allow_line allow = if allow then codes "Allow: POST\r\n" else []

-- An answer: its status line, its fields, an empty line, and the text with a line feed, which
-- Content-Length counts (RFC 9112, sections 4 and 6.2).
unfoldable pub response_text : ℕ → Bool → List ℕ → List ℕ
response_text code allow text =
    codes "HTTP/1.1 " ++ decimal code ++ codes " " ++ phrase code ++ codes "\r\n"
    ++ allow_line allow
    ++ codes "Content-Type: text/plain; charset=utf-8\r\nContent-Length: " ++ decimal (length text + 1)
    ++ codes "\r\nConnection: close\r\n\r\n" ++ text ++ codes "\n"
