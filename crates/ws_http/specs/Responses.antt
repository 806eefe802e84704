-- What the bytes of a response say, as many as have come (RFC 9112, sections 4 to 8, in this hub's
-- profile: heads in the first 16,384 bytes, a body of at most 4,194,304 bytes, and at most 8,388,608
-- bytes of a chunked body with its chunk lines and trailers).
use Rattle.std.specs.Prelude.{◌≡◌, ℕ, ◌+◌, ◌-◌, ◌≤◌, ◌⊎◌, Bool, true, false, ◌&&◌, if◌then◌else◌, nat_lt, nat_le, min, MatchBool, List, [], ◌++◌, length, take, drop, Option, Some, None}
use Rattle.std.specs.List.{flat_map, AllByRecursion}
use Rattle.httparse.specs.Grammar.{ResponseHead, print_response, status_code, IsResponseHead, ReadsResponse, HasNoResponse, MayBecomeResponse, NeverHasResponse}
use Rattle.ws_model.specs.Legal.{body_limit}
use Rattle.ws_model.specs.Fit.{is_fit}
use Rattle.ws_model.specs.declared.reply.Reply.{Reply}
use Rattle.ws_model.specs.declared.work.Outcome.{Outcome}
use Rattle.ws_model.specs.declared.work.Outcome.TheVariants as outcome
use Rattle.ws_http.specs.declared.fed.BadWhy.{BadWhy}
use Rattle.ws_http.specs.declared.fed.BadWhy.TheVariants as why
use Rattle.ws_http.specs.declared.fed.Need.{Need}
use Rattle.ws_http.specs.declared.fed.Need.TheVariants as need
use Rattle.ws_http.specs.declared.extent.Extent.{Extent}
use Rattle.ws_http.specs.declared.extent.Extent.TheVariants as extent
use Rattle.ws_http.specs.declared.chunk.Line.{Line}
use Rattle.ws_http.specs.declared.chunk.Line.TheVariants as line
use Rattle.ws_http.specs.declared.chunk.Next.{Next}
use Rattle.ws_http.specs.declared.chunk.Next.TheVariants as next
use Rattle.ws_http.specs.Chunks.{Chunk, After, LineIs, LineNext, chunk_data, print_chunks}
use Rattle.ws_http.specs.Fields.{fields_of}
use Rattle.ws_http.specs.ResponseFields.{response_extent, reply_of}

-- the most bytes of a chunked body, with its chunk lines and trailers
abbrev pub raw_limit : ℕ
raw_limit = 8388608

-- No whole final head; such a head without a whole message; such a head with a body that the end of the
-- connection makes whole; a whole message of so many bytes; or a fault.
pub data Verdict : Type 0 where
  unfinished : Verdict
  headed : Verdict
  lasting : Reply → Verdict
  whole : ℕ → Reply → Verdict
  bad : BadWhy → Verdict

-- ---- the heads

-- a status from 100 to 199 (RFC 9110, section 15.2)
abbrev pub is_interim : ℕ → Bool
is_interim code = nat_le 100 code && nat_lt code 200

-- a head that is read over
pub record IsInterim (h : ResponseHead) : Type 0 where
  pub head : IsResponseHead h
  pub code : is_interim (status_code h) ≡ true

-- the bytes of heads one after another
abbrev pub print_heads : List ResponseHead → List ℕ
print_heads heads = flat_map print_response heads

-- the bytes are these interim heads, and then the rest
pub record Behind (bytes : List ℕ) (interims : List ResponseHead) (rest : List ℕ) : Type 0 where
  pub each : AllByRecursion IsInterim interims
  pub split : bytes ≡ print_heads interims ++ rest

-- What stands behind the interim heads: no whole head yet, what is no head of a response, or the final one.
pub data Front : Type 0 where
  partial : Front
  wrong : Front
  final : ResponseHead → Front

-- a whole head with a status below 100
abbrev pub HasLowCode : List ℕ → Type 0
HasLowCode rest = (h : ResponseHead) × (after : List ℕ) × ReadsResponse rest h after × (nat_lt (status_code h) 100 ≡ true)

-- the rest begins so
abbrev pub IsFront : List ℕ → Front → Type 0
IsFront rest partial = HasNoResponse rest × MayBecomeResponse rest
IsFront rest wrong = NeverHasResponse rest ⊎ HasLowCode rest
IsFront rest (final h) = (after : List ℕ) × ReadsResponse rest h after × (nat_le 200 (status_code h) ≡ true)

-- ---- the body, whose first byte has a place

-- a body of a declared length
abbrev pub fixed_verdict : Need → ℕ → ResponseHead → ℕ → List ℕ → Verdict
fixed_verdict need start h n bytes =
    if nat_lt body_limit n then bad why.TooLong
    else if nat_le (start + n) (length bytes) then whole (start + n) (reply_of need h (take n (drop start bytes))) else headed

-- a body up to the end of the connection
abbrev pub lasting_verdict : Need → ℕ → ResponseHead → List ℕ → Verdict
lasting_verdict need start h bytes =
    if nat_lt body_limit (length (drop start bytes)) then bad why.TooLong else lasting (reply_of need h (drop start bytes))

-- Behind so many bytes of data, the data of the chunk that begins the rest passes a limit, as far as it came.
abbrev pub is_over : ℕ → ℕ → ℕ → Line → Bool
is_over limit before came line.Open = false
is_over limit before came line.Never = false
is_over limit before came (line.Whole len size) = nat_lt limit (before + min size (came - len))

-- what stands behind the whole chunks; the first raw byte past the limit is a fault
abbrev pub ChunksEnd : Need → ℕ → ResponseHead → List ℕ → List Chunk → Next → Verdict → Type 0
ChunksEnd need start h bytes chunks next.Open v =
    v ≡ (if nat_lt raw_limit (length (drop start bytes)) then bad why.TooLong else headed)
ChunksEnd need start h bytes chunks next.Wrong v = v ≡ bad why.Chunk
ChunksEnd need start h bytes chunks (next.Chunk line size) v = ⊥
ChunksEnd need start h bytes chunks (next.Last used) v =
    v ≡ whole (start + length (print_chunks chunks) + used) (reply_of need h (chunk_data chunks))

-- a chunked body (RFC 9112, section 7.1)
pub record ChunkedSays (need : Need) (start : ℕ) (h : ResponseHead) (bytes : List ℕ) (v : Verdict) : Type 0 where
  pub chunks : List Chunk
  pub rest : List ℕ
  pub line : Line
  pub after : After (take raw_limit (drop start bytes)) chunks rest
  pub small : length (chunk_data chunks) ≤ body_limit
  pub is : LineIs rest line
  pub says : MatchBool (is_over body_limit (length (chunk_data chunks)) (length rest) line) (v ≡ bad why.TooLong)
      ((n : Next) × LineNext rest line n × ChunksEnd need start h bytes chunks n v)

-- a message by how long its body is
abbrev pub BodySays : Need → ℕ → ResponseHead → List ℕ → Option Extent → Verdict → Type 0
BodySays need start h bytes None v = v ≡ bad why.Framing
BodySays need start h bytes (Some (extent.Fixed n)) v = v ≡ fixed_verdict need start h n bytes
BodySays need start h bytes (Some extent.Chunked) v = ChunkedSays need start h bytes v
BodySays need start h bytes (Some extent.Lasting) v = v ≡ lasting_verdict need start h bytes

-- ---- the message

-- Where only the status is asked for, the message is whole at the end of its final head.
abbrev pub FinalSays : Need → ℕ → ResponseHead → List ℕ → Verdict → Type 0
FinalSays need.Status start h bytes v = v ≡ whole start (reply_of need.Status h [])
FinalSays need.Short start h bytes v = BodySays need.Short start h bytes (response_extent (status_code h) (fields_of h.fields)) v
FinalSays need.Full start h bytes v = BodySays need.Full start h bytes (response_extent (status_code h) (fields_of h.fields)) v

-- a message with so many bytes of interim heads
abbrev pub FrontSays : Need → ℕ → List ℕ → Front → Verdict → Type 0
FrontSays need before bytes partial v = v ≡ (if nat_lt 16384 (length bytes) then bad why.TooLong else unfinished)
FrontSays need before bytes wrong v = v ≡ bad why.Head
FrontSays need before bytes (final h) v = FinalSays need (before + length (print_response h)) h bytes v

-- The verdict on the bytes of a response that have come. Only the first 16,384 are looked at for the heads.
pub record IsResponse (need : Need) (bytes : List ℕ) (v : Verdict) : Type 0 where
  pub interims : List ResponseHead
  pub rest : List ℕ
  pub front : Front
  pub behind : Behind (take 16384 bytes) interims rest
  pub is : IsFront rest front
  pub says : FrontSays need (length (print_heads interims)) bytes front v

-- the verdict once the connection has ended behind so many bytes
abbrev pub at_end : ℕ → Verdict → Verdict
at_end came unfinished = bad why.Cut
at_end came headed = bad why.Cut
at_end came (lasting reply) = whole came reply
at_end came (whole n reply) = whole n reply
at_end came (bad reason) = bad reason

-- the verdict, with the connection ended or not
abbrev pub closed : Bool → ℕ → Verdict → Verdict
closed ended came v = if ended then at_end came v else v

-- nothing that comes later changes it
abbrev pub is_final : Verdict → Bool
is_final unfinished = false
is_final headed = false
is_final (lasting reply) = false
is_final (whole n reply) = true
is_final (bad reason) = true

-- ---- the outcome of an exchange

-- the outcome that a fault makes
abbrev pub fault_outcome : BadWhy → Outcome
fault_outcome why.TooLong = outcome.TooLong
fault_outcome why.Cut = outcome.Lost
fault_outcome why.Head = outcome.Garbled
fault_outcome why.Host = outcome.Garbled
fault_outcome why.Framing = outcome.Garbled
fault_outcome why.Chunk = outcome.Garbled

-- the outcome that a final verdict makes
abbrev pub Makes : Verdict → Outcome → Type 0
Makes unfinished o = ⊥
Makes headed o = ⊥
Makes (lasting reply) o = ⊥
Makes (whole n reply) o = o ≡ outcome.Reply reply
Makes (bad reason) o = o ≡ fault_outcome reason

-- What an exchange got, by the bytes that its link gave, and whether the link has ended: the reply of the
-- one prefix that is a whole message; TooLong or Garbled by the fault that stands in the bytes; or Lost,
-- where it ended without any of these.
pub record Got (need : Need) (bytes : List ℕ) (ended : Bool) (o : Outcome) : Type 0 where
  pub verdict : Verdict
  pub is : IsResponse need bytes verdict
  pub makes : Makes (closed ended (length bytes) verdict) o

-- each outcome that an exchange got is fit
abbrev pub FitOutcomes : Type 0
FitOutcomes = (need : Need) (bytes : List ℕ) (ended : Bool) (o : Outcome) → Got need bytes ended o → is_fit o ≡ true

-- a verdict that is final stays that on the bytes, whatever comes behind them
abbrev pub ReplyStays : Type 0
ReplyStays =
    (need : Need) (bytes more : List ℕ) (v : Verdict) → is_final v ≡ true → IsResponse need bytes v → IsResponse need (bytes ++ more) v
