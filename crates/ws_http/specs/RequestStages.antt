-- What a request reader keeps between two pieces, and what it stands for.
use Rattle.std.specs.Prelude.{◌≡◌, ℕ, ◌+◌, ◌-◌, ◌≤◌, Bool, true, false, if◌then◌else◌, nat_lt, List, [], ◌++◌, length, take, drop, ⊤}
use Rattle.httparse.specs.Grammar.{RequestHead, ReadsRequest, HasNoRequest}
use Rattle.ws_http.specs.declared.fed.Fed.{Fed}
use Rattle.ws_http.specs.declared.fed.Need.TheVariants as need
use Rattle.ws_http.specs.declared.flow.Point.{Point}
use Rattle.ws_http.specs.declared.flow.Quota.{Quota}
use Rattle.ws_http.specs.declared.head.Framing.{Framing}
use Rattle.ws_http.specs.declared.head.Framing.TheVariants as framing
use Rattle.ws_http.specs.declared.head.Judged.TheVariants as judged
use Rattle.ws_http.specs.declared.stage.Stage.{Stage}
use Rattle.ws_http.specs.declared.stage.Stage.TheVariants as stage
use Rattle.ws_http.specs.Flow.{Flows}
use Rattle.ws_http.specs.Heads.{Judges}
use Rattle.ws_http.specs.Requests.{Verdict, unfinished, headed, whole, bad, is_final, is_headed, said, said_again, IsRequest}

-- the verdict that a stage stands for
abbrev pub verdict_of : Stage → List ℕ → List ℕ → Verdict
verdict_of stage.Head raw body = unfinished
verdict_of (stage.Fixed head total) raw body = headed
verdict_of (stage.Chunked head point) raw body = headed
verdict_of (stage.Whole head total chunked) raw body = whole total (if chunked then body else take (total - head) (drop head raw))
verdict_of (stage.Bad reason sound) raw body = bad reason sound

-- the bytes have a sound head of so many bytes that declares this framing
abbrev pub HasHead : List ℕ → ℕ → Framing → Type 0
HasHead raw head framing = Judges (take 16384 raw) (judged.Head head framing)

-- no whole head stands in the bytes, and they are no more than a head's
pub record Unheaded (raw : List ℕ) : Type 0 where
  pub none : HasNoRequest (take 16384 raw)
  pub short : length raw ≤ 16384

-- all data of a chunked body is kept; it has no limit but the room for the whole message
abbrev pub quota_for : ℕ → Quota
quota_for room = record { need = need.Full; limit = room }

-- The bytes that came are a head and a chunked body, within the room. The head is kept, and of the body what is held
-- back.
pub record Chunking (room : ℕ) (raw body : List ℕ) (head : ℕ) (p : Point) (came : List ℕ) : Type 0 where
  pub is : HasHead came head framing.Chunked
  pub heads : take head raw ≡ take head came
  pub inside : head ≤ length raw
  pub flows : Flows (quota_for room) (drop head came) (drop head raw) body p
  pub limit : head + p.count ≤ room

-- what a stage says of the bytes that are kept is so
abbrev pub Ready : ℕ → List ℕ → List ℕ → Stage → Type 0
Ready room raw body stage.Head = (body ≡ []) × Unheaded raw
Ready room raw body (stage.Fixed head total) =
    (body ≡ []) × (n : ℕ) × HasHead raw head (framing.Fixed n) × (total ≡ head + n) × (total ≤ room)
Ready room raw body (stage.Chunked head p) = (came : List ℕ) × Chunking room raw body head p came
Ready room raw body (stage.Whole head total chunked) =
    (f : Framing) × HasHead raw head f × (head ≤ total) × (chunked ≡ false → total ≤ length raw)
Ready room raw body (stage.Bad reason true) = (head : ℕ) × (f : Framing) × HasHead raw head f
Ready room raw body (stage.Bad reason false) = ⊤

-- the verdict that the stage stands for is that on any bytes whose first `room` are these, and of which more came or not
abbrev pub HoldsFor : ℕ → List ℕ → Bool → List ℕ → Stage → Type 0
HoldsFor room raw over body s =
    (bytes : List ℕ) → take room bytes ≡ raw → nat_lt room (length bytes) ≡ over → IsRequest room bytes (verdict_of s raw body)

-- whether a chunked body has begun
abbrev pub is_chunked : Stage → Bool
is_chunked stage.Head = false
is_chunked (stage.Fixed head total) = false
is_chunked (stage.Chunked head p) = true
is_chunked (stage.Whole head total chunked) = false
is_chunked (stage.Bad reason sound) = false

-- where a chunked body begins, its head is so
abbrev pub HasBegun : List ℕ → Stage → Type 0
HasBegun raw stage.Head = ⊤
HasBegun raw (stage.Fixed head total) = ⊤
HasBegun raw (stage.Chunked head p) = HasHead raw head framing.Chunked
HasBegun raw (stage.Whole head total chunked) = ⊤
HasBegun raw (stage.Bad reason sound) = ⊤

-- whether the stage is the last one
abbrev pub is_last : Stage → Bool
is_last stage.Head = false
is_last (stage.Fixed head total) = false
is_last (stage.Chunked head p) = false
is_last (stage.Whole head total chunked) = true
is_last (stage.Bad reason sound) = true

-- where more came than there is room for, nothing is left open
abbrev pub Closes : Bool → Stage → Type 0
Closes over s = over ≡ true → is_last s ≡ true

-- how many bytes came up to a stage that isn't the last one
abbrev pub count_of : List ℕ → Stage → ℕ
count_of raw stage.Head = length raw
count_of raw (stage.Fixed head total) = length raw
count_of raw (stage.Chunked head p) = head + p.count
count_of raw (stage.Whole head total chunked) = length raw
count_of raw (stage.Bad reason sound) = length raw

-- What is kept of the bytes that came: all while the message goes on, but for a chunked body.
abbrev pub Keeps : ℕ → List ℕ → List ℕ → Stage → List ℕ → Type 0
Keeps room raw body stage.Head came = raw ≡ came
Keeps room raw body (stage.Fixed head total) came = raw ≡ came
Keeps room raw body (stage.Chunked head p) came = Chunking room raw body head p came
Keeps room raw body (stage.Whole head total chunked) came = ⊤
Keeps room raw body (stage.Bad reason sound) came = ⊤

-- one head stands at the front of what is kept, and of all that came
pub record SharesHead (raw came : List ℕ) : Type 0 where
  pub head : RequestHead
  pub kept_rest : List ℕ
  pub rest : List ℕ
  pub kept : ReadsRequest (take 16384 raw) head kept_rest
  pub reads : ReadsRequest (take 16384 came) head rest

-- What callers see of a reader: its room, the bytes that are kept as they came, the data of a chunked body so far, and
-- how far the message has been read.
pub record Reading : Type 0 where
  pub room : ℕ
  pub bytes : List ℕ
  pub content : List ℕ
  pub stage : Stage

-- the verdict that a reader has come to
abbrev pub verdict : Reading → Verdict
verdict r = verdict_of r.stage r.bytes r.content

-- how many bytes a reader was fed, where it has come to no final verdict
abbrev pub fed_count : Reading → ℕ
fed_count r = count_of r.bytes r.stage

-- a reader that has read nothing
abbrev pub fresh : ℕ → Reading
fresh room = record { room = room; bytes = []; content = []; stage = stage.Head }

-- what a reader keeps is so, and there is room for all that may come
pub record IsReader (room : ℕ) (bytes content : List ℕ) (s : Stage) (raw_capacity body_capacity : ℕ) : Type 0 where
  pub least : 16384 ≤ room
  pub most : room ≤ 4210688
  pub short : length bytes ≤ room
  pub kept : room ≤ raw_capacity
  pub held : room ≤ body_capacity
  pub ready : Ready room bytes content s

-- The reader was fed these bytes, and has come to the verdict on them. Until the verdict is final it keeps all of them,
-- but for the chunks of a chunked body, of which it keeps the data and the bytes behind the last whole one. A sound head
-- is kept in each case.
pub record Stands (r : Reading) (came : List ℕ) : Type 0 where
  pub judged : IsRequest r.room came (verdict r)
  pub kept : Keeps r.room r.bytes r.content r.stage came
  pub head : is_headed (verdict r) ≡ true → SharesHead r.bytes came

-- Feeding a reader that has a final verdict changes nothing, and says that verdict again with no
-- byte used. Else the new verdict is that on all bytes that have come, and what is said follows from
-- it.
pub record Feeds (old : Reading) (piece : List ℕ) (new : Reading) (answer : Fed) : Type 0 where
  pub again : is_final (verdict old) ≡ true → (new ≡ old) × (answer ≡ said_again (verdict old))
  pub stands : is_final (verdict old) ≡ false → (came : List ℕ) → Stands old came
      → Stands new (came ++ piece) × (answer ≡ said (length came) (verdict old) (verdict new))
  pub room : new.room ≡ old.room
