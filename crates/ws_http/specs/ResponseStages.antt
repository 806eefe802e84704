-- What a response reader keeps between two pieces, and what it stands for.
use Rattle.std.specs.Prelude.{◌≡◌, ℕ, ◌+◌, ◌-◌, ◌≤◌, Bool, true, false, if◌then◌else◌, nat_lt, nat_le, List, [], ◌++◌, length, take, drop, Option, Some, None, MatchBool, ⊤}
use Rattle.httparse.specs.Grammar.{ResponseHead, print_response, status_code, ReadsResponse, HasNoResponse}
use Rattle.ws_model.specs.Legal.{body_limit}
use Rattle.ws_http.specs.declared.fed.BadWhy.TheVariants as why
use Rattle.ws_http.specs.declared.fed.Fed.{Fed}
use Rattle.ws_http.specs.declared.fed.Fed.TheVariants as fed
use Rattle.ws_http.specs.declared.fed.Need.{Need}
use Rattle.ws_http.specs.declared.fed.Need.TheVariants as need
use Rattle.ws_http.specs.declared.extent.Extent.{Extent}
use Rattle.ws_http.specs.declared.extent.Extent.TheVariants as extent
use Rattle.ws_http.specs.declared.reply_head.FinalHead.{FinalHead}
use Rattle.ws_http.specs.declared.reply_stage.ReplyStage.{ReplyStage}
use Rattle.ws_http.specs.declared.reply_stage.ReplyStage.TheVariants as stage
use Rattle.ws_http.specs.declared.flow.Point.{Point}
use Rattle.ws_http.specs.declared.flow.Quota.{Quota}
use Rattle.ws_http.specs.Flow.{Flows}
use Rattle.ws_http.specs.Fields.{fields_of}
use Rattle.ws_http.specs.ResponseFields.{response_extent, reply_of, kept_of}
use Rattle.ws_http.specs.Responses.{Verdict, unfinished, headed, lasting, whole, bad, closed, raw_limit, Behind, print_heads, IsResponse}

-- how many bytes a reader looks at: those of the heads, and for a body as many as a chunked one may have
abbrev pub room_of : Need → ℕ
room_of need.Status = 16384
room_of need.Short = 8404992
room_of need.Full = 8404992

-- whether everything is asked for
abbrev pub is_full : Need → Bool
is_full need.Status = false
is_full need.Short = false
is_full need.Full = true

-- whether only the status is asked for
abbrev pub is_status : Need → Bool
is_status need.Status = true
is_status need.Short = false
is_status need.Full = false

-- interim heads stand in front of a place
pub record HasInterims (front : List ℕ) (at : ℕ) : Type 0 where
  pub interims : List ResponseHead
  pub behind : Behind front interims (drop at front)
  pub place : at ≡ length (print_heads interims)
  pub inside : at ≤ length front

-- the final head stands behind the interim ones, and the body begins at a place
pub record HasFinal (front : List ℕ) (f : FinalHead) (h : ResponseHead) : Type 0 where
  pub before : HasInterims front f.at
  pub rest : List ℕ
  pub reads : ReadsResponse (drop f.at front) h rest
  pub code : nat_le 200 (status_code h) ≡ true
  pub place : f.start ≡ f.at + length (print_response h)
  pub inside : f.start ≤ length front

-- the front of the bytes, in which the heads stand
abbrev pub front : List ℕ → List ℕ
front raw = take 16384 raw

-- the response's final head, which says how long the body is
abbrev pub extent_by : ResponseHead → Option Extent
extent_by h = response_extent (status_code h) (fields_of h.fields)

-- the body of a whole message, or the part of it that is kept where it is chunked
abbrev pub content_of : List ℕ → List ℕ → ℕ → ℕ → Bool → List ℕ
content_of raw body start total chunked = if chunked then body else take (total - start) (drop start raw)

-- no whole final head stands in the bytes behind the interim ones, and they are no more than a head's
pub record Unled (raw : List ℕ) (at : ℕ) : Type 0 where
  pub none : HasNoResponse (drop at (front raw))
  pub short : length raw ≤ 16384

-- of a chunked body the part that is asked for is kept, and it has a limit
abbrev pub quota_of : Need → Quota
quota_of need = record { need = need; limit = body_limit }

-- The bytes that came are the heads and a chunked body. The heads are kept, and of the body what is held back.
pub record Chunking (need : Need) (raw body : List ℕ) (f : FinalHead) (p : Point) (came : List ℕ) : Type 0 where
  pub head : ResponseHead
  pub final : HasFinal (front came) f head
  pub extent : extent_by head ≡ Some extent.Chunked
  pub asks : is_status need ≡ false
  pub heads : take f.start raw ≡ take f.start came
  pub inside : f.start ≤ length raw
  pub flows : Flows (quota_of need) (drop f.start came) (drop f.start raw) body p
  pub limit : p.count ≤ raw_limit

-- what a stage says of the bytes is so
abbrev pub Ready : Need → List ℕ → List ℕ → ReplyStage → Type 0
Ready need raw body (stage.Head at) = (body ≡ []) × HasInterims (front raw) at × Unled raw at
Ready need raw body (stage.Fixed f total) =
    (h : ResponseHead) × (n : ℕ) × HasFinal (front raw) f h × (extent_by h ≡ Some (extent.Fixed n))
    × (total ≡ f.start + n) × (n ≤ body_limit) × (is_status need ≡ false)
Ready need raw body (stage.Lasting f) =
    (h : ResponseHead) × HasFinal (front raw) f h × (extent_by h ≡ Some extent.Lasting) × (is_status need ≡ false)
Ready need raw body (stage.Chunked f p) = (came : List ℕ) × Chunking need raw body f p came
Ready need raw body (stage.Whole f total chunked) =
    (h : ResponseHead) × HasFinal (front raw) f h × (f.start ≤ total) × (chunked ≡ false → total ≤ length raw)
    × (chunked ≡ true → kept_of need body ≡ body)
Ready need raw body (stage.Bad reason) = ⊤
Ready need raw body stage.NoMemory = is_full need ≡ true

-- a body that isn't chunked, or is whole, is within its limit
abbrev pub Small : List ℕ → List ℕ → ReplyStage → Type 0
Small raw body (stage.Head at) = ⊤
Small raw body (stage.Fixed f total) = ⊤
Small raw body (stage.Lasting f) = length (drop f.start raw) ≤ body_limit
Small raw body (stage.Chunked f p) = ⊤
Small raw body (stage.Whole f total chunked) = length (content_of raw body f.start total chunked) ≤ body_limit
Small raw body (stage.Bad reason) = ⊤
Small raw body stage.NoMemory = ⊤

-- the verdict is that of the stage
abbrev pub Says : Need → List ℕ → List ℕ → ReplyStage → Verdict → Type 0
Says need raw body (stage.Head at) v = v ≡ unfinished
Says need raw body (stage.Fixed f total) v = v ≡ headed
Says need raw body (stage.Lasting f) v =
    (h : ResponseHead) × HasFinal (front raw) f h × (v ≡ lasting (reply_of need h (drop f.start raw)))
Says need raw body (stage.Chunked f p) v = v ≡ headed
Says need raw body (stage.Whole f total chunked) v =
    (h : ResponseHead) × HasFinal (front raw) f h × (v ≡ whole total (reply_of need h (content_of raw body f.start total chunked)))
Says need raw body (stage.Bad reason) v = v ≡ bad reason
Says need raw body stage.NoMemory v = ⊥

-- the stage stands for the verdict on any bytes whose first ones are these, and of which more came or not
abbrev pub Judged : Need → List ℕ → Bool → List ℕ → ReplyStage → Type 0
Judged need raw over body s =
    (bytes : List ℕ) → take (room_of need) bytes ≡ raw → nat_lt (room_of need) (length bytes) ≡ over
    → (v : Verdict) × IsResponse need bytes v × Says need raw body s v

-- whether a chunked body has begun
abbrev pub is_chunked : ReplyStage → Bool
is_chunked (stage.Head at) = false
is_chunked (stage.Fixed f total) = false
is_chunked (stage.Lasting f) = false
is_chunked (stage.Chunked f p) = true
is_chunked (stage.Whole f total chunked) = false
is_chunked (stage.Bad reason) = false
is_chunked stage.NoMemory = false

-- where a chunked body begins, its head is so
abbrev pub HasBegun : Need → List ℕ → ReplyStage → Type 0
HasBegun need raw (stage.Head at) = ⊤
HasBegun need raw (stage.Fixed f total) = ⊤
HasBegun need raw (stage.Lasting f) = ⊤
HasBegun need raw (stage.Chunked f p) =
    (h : ResponseHead) × HasFinal (front raw) f h × (extent_by h ≡ Some extent.Chunked) × (is_status need ≡ false)
HasBegun need raw (stage.Whole f total chunked) = ⊤
HasBegun need raw (stage.Bad reason) = ⊤
HasBegun need raw stage.NoMemory = ⊤

-- a head stands at a place, and ends where another one does or before
pub record HeadWithin (front : List ℕ) (at end : ℕ) : Type 0 where
  pub head : ResponseHead
  pub rest : List ℕ
  pub reads : ReadsResponse (drop at front) head rest
  pub before : at + length (print_response head) ≤ end

-- where a chunked body begins, a head stands at the place
abbrev pub Reaches : List ℕ → ℕ → ReplyStage → Type 0
Reaches front at (stage.Head to) = ⊤
Reaches front at (stage.Fixed f total) = ⊤
Reaches front at (stage.Lasting f) = ⊤
Reaches front at (stage.Chunked f p) = HeadWithin front at f.start
Reaches front at (stage.Whole f total chunked) = ⊤
Reaches front at (stage.Bad reason) = ⊤
Reaches front at stage.NoMemory = ⊤

-- how many bytes came up to a stage
abbrev pub count_of : List ℕ → ReplyStage → ℕ
count_of raw (stage.Head at) = length raw
count_of raw (stage.Fixed f total) = length raw
count_of raw (stage.Lasting f) = length raw
count_of raw (stage.Chunked f p) = f.start + p.count
count_of raw (stage.Whole f total chunked) = length raw
count_of raw (stage.Bad reason) = length raw
count_of raw stage.NoMemory = length raw

-- What is kept of the bytes that came: all while the message goes on, but for a chunked body.
abbrev pub Keeps : Need → List ℕ → List ℕ → ReplyStage → List ℕ → Type 0
Keeps need raw body (stage.Head at) came = raw ≡ came
Keeps need raw body (stage.Fixed f total) came = raw ≡ came
Keeps need raw body (stage.Lasting f) came = raw ≡ came
Keeps need raw body (stage.Chunked f p) came = Chunking need raw body f p came
Keeps need raw body (stage.Whole f total chunked) came = ⊤
Keeps need raw body (stage.Bad reason) came = ⊤
Keeps need raw body stage.NoMemory came = ⊤

-- whether there was no memory
abbrev pub is_starved : ReplyStage → Bool
is_starved (stage.Head at) = false
is_starved (stage.Fixed f total) = false
is_starved (stage.Lasting f) = false
is_starved (stage.Chunked f p) = false
is_starved (stage.Whole f total chunked) = false
is_starved (stage.Bad reason) = false
is_starved stage.NoMemory = true

-- whether the message is whole
abbrev pub is_whole : ReplyStage → Bool
is_whole (stage.Head at) = false
is_whole (stage.Fixed f total) = false
is_whole (stage.Lasting f) = false
is_whole (stage.Chunked f p) = false
is_whole (stage.Whole f total chunked) = true
is_whole (stage.Bad reason) = false
is_whole stage.NoMemory = false

-- whether the stage is the last one
abbrev pub is_last : ReplyStage → Bool
is_last (stage.Head at) = false
is_last (stage.Fixed f total) = false
is_last (stage.Lasting f) = false
is_last (stage.Chunked f p) = false
is_last (stage.Whole f total chunked) = true
is_last (stage.Bad reason) = true
is_last stage.NoMemory = true

-- the stage once the connection has ended behind so many bytes
abbrev pub stage_at_end : ℕ → ReplyStage → ReplyStage
stage_at_end came (stage.Head at) = stage.Bad why.Cut
stage_at_end came (stage.Fixed f total) = stage.Bad why.Cut
stage_at_end came (stage.Lasting f) = stage.Whole f came false
stage_at_end came (stage.Chunked f p) = stage.Bad why.Cut
stage_at_end came (stage.Whole f total chunked) = stage.Whole f total chunked
stage_at_end came (stage.Bad reason) = stage.Bad reason
stage_at_end came stage.NoMemory = stage.NoMemory

-- the stage with the connection ended or not
abbrev pub stage_closed : Bool → ℕ → ReplyStage → ReplyStage
stage_closed ended came s = if ended then stage_at_end came s else s

-- ---- what is said

-- what is said with a piece that stands behind so many bytes, where the head wasn't whole before
abbrev pub said_first : ℕ → ReplyStage → Fed
said_first before (stage.Head at) = fed.More
said_first before (stage.Fixed f total) = fed.Head
said_first before (stage.Lasting f) = fed.Head
said_first before (stage.Chunked f p) = fed.Head
said_first before (stage.Whole f total chunked) = fed.Whole (total - before)
said_first before (stage.Bad reason) = fed.Bad reason
said_first before stage.NoMemory = fed.NoMemory

-- the same, where the head was whole before: it isn't told again
abbrev pub untold : Fed → Fed
untold fed.More = fed.More
untold fed.Head = fed.More
untold (fed.Whole used) = fed.Whole used
untold (fed.Bad reason) = fed.Bad reason
untold fed.NoMemory = fed.NoMemory

-- what is said with a piece that stands behind so many bytes, between two stages
abbrev pub said : ℕ → ReplyStage → ReplyStage → Fed
said before (stage.Head at) new = said_first before new
said before (stage.Fixed f total) new = untold (said_first before new)
said before (stage.Lasting f) new = untold (said_first before new)
said before (stage.Chunked f p) new = untold (said_first before new)
said before (stage.Whole f total chunked) new = untold (said_first before new)
said before (stage.Bad reason) new = untold (said_first before new)
said before stage.NoMemory new = untold (said_first before new)

-- what is said again at a last stage
abbrev pub said_again : ReplyStage → Fed
said_again (stage.Head at) = fed.More
said_again (stage.Fixed f total) = fed.More
said_again (stage.Lasting f) = fed.More
said_again (stage.Chunked f p) = fed.More
said_again (stage.Whole f total chunked) = fed.Whole 0
said_again (stage.Bad reason) = fed.Bad reason
said_again stage.NoMemory = fed.NoMemory

-- what an answer tells of the stage
abbrev pub TellsReply : Fed → ReplyStage → Type 0
TellsReply fed.More s = is_last s ≡ false
TellsReply fed.Head s = is_last s ≡ false
TellsReply (fed.Whole used) s = is_whole s ≡ true
TellsReply (fed.Bad reason) s = s ≡ stage.Bad reason
TellsReply fed.NoMemory s = s ≡ stage.NoMemory

-- What callers see of a reader: what is asked for, the bytes that are kept as they came, the part of the data of a
-- chunked body that is kept, and how far the message has been read.
pub record ReplyReading : Type 0 where
  pub need : Need
  pub bytes : List ℕ
  pub content : List ℕ
  pub stage : ReplyStage

-- a reader that has read nothing
abbrev pub fresh_reply : Need → ReplyReading
fresh_reply need = record { need = need; bytes = []; content = []; stage = stage.Head 0 }

-- The bytes that came are kept as two lists. Where everything is asked for, a body that isn't chunked stands
-- apart from the heads, so that it can be given away as it is; else all is in the first list.
abbrev pub Split : Need → ℕ → List ℕ → List ℕ → Type 0
Split need start raw tail = MatchBool (is_full need) (length raw ≡ start) (tail ≡ [])

-- how the bytes that came are kept at a stage
abbrev pub IsSplit : Need → List ℕ → List ℕ → ReplyStage → Type 0
IsSplit need raw tail (stage.Head at) = tail ≡ []
IsSplit need raw tail (stage.Fixed f total) = Split need f.start raw tail
IsSplit need raw tail (stage.Lasting f) = Split need f.start raw tail
IsSplit need raw tail (stage.Chunked f p) = tail ≡ []
IsSplit need raw tail (stage.Whole f total chunked) = MatchBool chunked (tail ≡ []) (Split need f.start raw tail)
IsSplit need raw tail (stage.Bad reason) = ⊤
IsSplit need raw tail stage.NoMemory = ⊤

-- whether the message goes on with a body that stands apart
abbrev pub is_apart : Need → ReplyStage → Bool
is_apart need (stage.Head at) = false
is_apart need (stage.Fixed f total) = is_full need
is_apart need (stage.Lasting f) = is_full need
is_apart need (stage.Chunked f p) = false
is_apart need (stage.Whole f total chunked) = false
is_apart need (stage.Bad reason) = false
is_apart need stage.NoMemory = false

-- where a body that stands apart begins, the whole one too
abbrev pub apart_from : Need → ReplyStage → Option ℕ
apart_from need (stage.Head at) = None
apart_from need (stage.Fixed f total) = if is_full need then Some f.start else None
apart_from need (stage.Lasting f) = if is_full need then Some f.start else None
apart_from need (stage.Chunked f p) = None
apart_from need (stage.Whole f total chunked) = if chunked then None else (if is_full need then Some f.start else None)
apart_from need (stage.Bad reason) = None
apart_from need stage.NoMemory = None

-- what a reader keeps is so, and there is room for all that may come, but where everything is asked for
pub record IsReplyReader (need : Need) (raw tail content : List ℕ) (s : ReplyStage) (raw_capacity body_capacity : ℕ) : Type 0 where
  pub short : length (raw ++ tail) ≤ room_of need
  pub kept : is_full need ≡ false → room_of need ≤ raw_capacity
  pub held : is_full need ≡ false → 41 ≤ body_capacity
  pub ready : Ready need (raw ++ tail) content s
  pub small : Small (raw ++ tail) content s
  pub apart : IsSplit need raw tail s

-- The reader was fed these bytes, with the connection's end behind them or not, and stands for the verdict
-- on them. Until the verdict is final it keeps all of them, but for the chunks of a chunked body, of which it keeps
-- the data that is asked for and the bytes behind the last whole one.
pub record Stands (r : ReplyReading) (came : List ℕ) (ended : Bool) : Type 0 where
  pub verdict : Verdict
  pub is : IsResponse r.need came verdict
  pub says : Says r.need r.bytes r.content r.stage (closed ended (length came) verdict)
  pub kept : Keeps r.need r.bytes r.content r.stage came

-- Feeding a reader that is at its last stage changes nothing, and says the same again with no byte used. Else
-- there was no memory, which comes only where everything is asked for; or the reader stands for all bytes
-- that have come, and what is said follows from that.
pub record FeedsReply (old : ReplyReading) (piece : List ℕ) (ended : Bool) (new : ReplyReading) (answer : Fed) : Type 0 where
  pub asked : new.need ≡ old.need
  pub again : is_last old.stage ≡ true → (new ≡ old) × (answer ≡ said_again old.stage)
  pub stands : is_last old.stage ≡ false → is_starved new.stage ≡ false → (came : List ℕ) → Stands old came false
      → Stands new (came ++ piece) ended × (answer ≡ said (length came) old.stage new.stage)
  pub starved : is_starved new.stage ≡ true → (answer ≡ fed.NoMemory) × (old.need ≡ need.Full)
  pub closes : ended ≡ true → is_last new.stage ≡ true

-- the part of a whole message's body that is kept
abbrev pub kept_content : Need → List ℕ → List ℕ → ℕ → ℕ → Bool → List ℕ
kept_content need.Status raw body start total chunked = []
kept_content need.Short raw body start total chunked = if chunked then body else take 41 (take (total - start) (drop start raw))
kept_content need.Full raw body start total chunked = if chunked then body else take (total - start) (drop start raw)
