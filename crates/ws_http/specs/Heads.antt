-- What the first bytes of a request say (RFC 9112, sections 2 to 6), by the grammar of the crate `httparse`.
use Rattle.httparse.specs.Ascii.{crlf_bytes}
use Rattle.memchr.specs.Find.{FindsNeedle}
use Rattle.std.specs.Prelude.{◌≡◌, ℕ, ◌+◌, ◌≤◌, true, false, List, ◌++◌, length, Option, Some, None}
use Rattle.httparse.specs.declared.spans.HeaderSpan.{HeaderSpan}
use Rattle.httparse.specs.Grammar.{RequestHead, print_request, ReadsRequest, HasNoRequest, MayBecomeRequest, NeverHasRequest}
use Rattle.httparse.specs.Spans.{IsRequestWithin, IsRequestOf}
use Rattle.ws_http.specs.declared.fed.BadWhy.TheVariants as why
use Rattle.ws_http.specs.declared.head.Framing.{Framing}
use Rattle.ws_http.specs.declared.head.Seen.{Seen}
use Rattle.ws_http.specs.declared.head.Seen.TheVariants as seen
use Rattle.ws_http.specs.declared.head.Judged.{Judged}
use Rattle.ws_http.specs.declared.head.Judged.TheVariants as judged
use Rattle.ws_http.specs.Fields.{request_framing, has_host, fields_of}

-- what was found at the front of the bytes: a head, the begin of one, or what can't become one
abbrev pub Sees : List ℕ → List HeaderSpan → Seen → Type 0
Sees front headers (seen.Head spans) = IsRequestWithin front headers spans × IsRequestOf front headers spans
Sees front headers seen.Open = HasNoRequest front × MayBecomeRequest front
Sees front headers seen.Never = NeverHasRequest front

-- a request head has one Host, or is of HTTP/1.0
abbrev pub HostIs : RequestHead → Type 0
HostIs h = has_host h.minor (fields_of h.fields) ≡ true

-- the bytes begin with this request head, which is sound and declares this framing
pub record IsSound (front : List ℕ) (h : RequestHead) (framing : Framing) : Type 0 where
  pub rest : List ℕ
  pub reads : ReadsRequest front h rest
  pub host : has_host h.minor (fields_of h.fields) ≡ true
  pub framed : request_framing (fields_of h.fields) ≡ Some framing

-- The verdict on the front of a request: the faults of a head stand in the order Head, Host, Framing.
abbrev pub Judges : List ℕ → Judged → Type 0
Judges front judged.Open = HasNoRequest front × MayBecomeRequest front
Judges front (judged.Bad why.Head) = NeverHasRequest front
Judges front (judged.Bad why.Host) =
    (h : RequestHead) × (rest : List ℕ) × ReadsRequest front h rest × (has_host h.minor (fields_of h.fields) ≡ false)
Judges front (judged.Bad why.Framing) =
    (h : RequestHead) × (rest : List ℕ) × ReadsRequest front h rest × (has_host h.minor (fields_of h.fields) ≡ true)
    × (request_framing (fields_of h.fields) ≡ None)
Judges front (judged.Bad why.TooLong) = ⊥
Judges front (judged.Bad why.Chunk) = ⊥
Judges front (judged.Bad why.Cut) = ⊥
Judges front (judged.Head len framing) =
    (h : RequestHead) × IsSound front h framing × (len ≡ length (print_request h)) × (len ≤ length front)

-- up to the first empty line, as CRLF CRLF, or all of so many bytes
abbrev pub end_of : ℕ → Option ℕ → ℕ
end_of came None = came
end_of came (Some at) = at + 4

-- how many bytes stand up to the first empty line and with it, or all
abbrev pub EndsAt : List ℕ → ℕ → Type 0
EndsAt bytes n = (at : Option ℕ) × FindsNeedle bytes (crlf_bytes ++ crlf_bytes) 0 at × (n ≡ end_of (length bytes) at)
