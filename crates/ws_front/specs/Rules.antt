-- What the request rules say of the bytes that came (RFC 9110, RFC 9112, in this hub's profile): whether there is
-- nothing to say yet, a refusal, or a form to be read.
use Rattle.std.specs.Prelude.{◌≡◌, ℕ, Bool, true, false, not, ◌||◌, if◌then◌else◌, ◌==◌, List, [], ◌∷◌, take, Option, Some, None, MatchBool, bytes_eq, codes}
use Rattle.std.specs.Str.{str_eq_ignore_ascii_case}
use Rattle.httparse.specs.Grammar.{RequestHead, ReadsRequest, trim_ows}
use Rattle.ws_target.specs.Requests.{path_and_query, place_of}
use Rattle.ws_http.specs.declared.fed.BadWhy.{BadWhy}
use Rattle.ws_http.specs.declared.fed.BadWhy.TheVariants as why
use Rattle.ws_http.specs.Fields.{first_value, fields_of, expects_continue}
use Rattle.ws_http.specs.Requests.{Verdict, unfinished, headed, whole, bad, is_headed, IsRequest}
use Rattle.ws_front.specs.declared.refusal.Refusal.{Refusal}
use Rattle.ws_front.specs.declared.refusal.Refusal.TheVariants.{BadRequest, TooLarge, NotFound, PostOnly, FormOnly}

-- ---- faults of the message: its head, Host, framing, length and chunks (RFC 9112, sections 3, 3.2, 6.3 and 7.1)

abbrev pub fault_refusal : BadWhy → Refusal
fault_refusal why.TooLong = TooLarge
fault_refusal why.Head = BadRequest
fault_refusal why.Host = BadRequest
fault_refusal why.Framing = BadRequest
fault_refusal why.Chunk = BadRequest
fault_refusal why.Cut = BadRequest

-- ---- what a sound head asks for

-- the path and query of the hub's URL (origin-form), or that URL itself (absolute-form; RFC 9112, section 3.2)
abbrev pub is_own_target : List ℕ → List ℕ → Bool
is_own_target hub target = bytes_eq target (path_and_query (place_of hub)) || bytes_eq target hub

-- the bytes before the first semicolon
abbrev pub until_semicolon : List ℕ → List ℕ
until_semicolon [] = []
until_semicolon (b ∷ bs) = if b == 59 then [] else b ∷ until_semicolon bs

-- The media type of a form, without its parameters and whatever the case of its letters (RFC 9110, section 8.3.1). A
-- missing one is read as a form (own).
abbrev pub is_form_type : Option (List ℕ) → Bool
is_form_type None = true
is_form_type (Some value) =
    str_eq_ignore_ascii_case (trim_ows (until_semicolon value)) (codes "application/x-www-form-urlencoded")

-- Why a sound head is refused, by the first of these that holds: the target isn't the hub's, the method isn't POST,
-- the content isn't a form (RFC 9110, sections 15.5.5, 15.5.6 and 15.5.16).
unfoldable pub head_refusal : List ℕ → RequestHead → Option Refusal
head_refusal hub h =
    if not (is_own_target hub h.target) then Some NotFound
    else if not (bytes_eq h.method (codes "POST")) then Some PostOnly
    else if not (is_form_type (first_value (codes "content-type") (fields_of h.fields))) then Some FormOnly
    else None

-- the sender waits for an interim answer before it sends the body (RFC 9110, section 10.1.1)
abbrev pub awaits : RequestHead → Bool
awaits h = expects_continue h.minor (fields_of h.fields)

-- ---- the rules in their order

-- nothing to say yet; a refusal; or the form of a whole message
pub data Ruling : Type 0 where
  waits : Ruling
  refused : Refusal → Ruling
  form : List ℕ → Ruling

-- what is said of a message, and whether the interim line comes before
pub record Says : Type 0 where
  pub interim : Bool
  pub ruling : Ruling

-- by the verdict alone
abbrev pub by_verdict : Verdict → Ruling
by_verdict unfinished = waits
by_verdict headed = waits
by_verdict (whole n body) = form body
by_verdict (bad reason sound) = refused (fault_refusal reason)

-- Behind a sound head: its refusal comes before all that the body shows, and the interim line only where there is none.
abbrev pub by_head : Option Refusal → Bool → Verdict → Says
by_head (Some refusal) expects v = record { interim = false; ruling = refused refusal }
by_head None expects v = record { interim = expects; ruling = by_verdict v }

-- the bytes begin with a sound head
abbrev pub HeadSays : List ℕ → List ℕ → Verdict → Says → Type 0
HeadSays hub bytes v s =
    (h : RequestHead) × (rest : List ℕ) × ReadsRequest (take 16384 bytes) h rest × (s ≡ by_head (head_refusal hub h) (awaits h) v)

-- What the rules say of the bytes that came, to a hub with this URL.
pub record Rules (hub bytes : List ℕ) (s : Says) : Type 0 where
  pub verdict : Verdict
  pub is : IsRequest 16384 bytes verdict
  pub says : MatchBool (is_headed verdict) (HeadSays hub bytes verdict s) (s ≡ record { interim = false; ruling = by_verdict verdict })

-- nothing but the interim line, where it is due, is said yet
abbrev pub Waits : List ℕ → List ℕ → Bool → Type 0
Waits hub bytes interim = Rules hub bytes (record { interim = interim; ruling = waits })
