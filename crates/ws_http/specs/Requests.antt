-- What the bytes of a request say, as many as have come (RFC 9112, sections 2 to 7, in this hub's
-- profile: a head of at most 16,384 bytes, and a message of at most `room` bytes).
use Rattle.std.specs.Prelude.{◌≡◌, ℕ, ◌+◌, ◌-◌, Bool, true, false, if◌then◌else◌, nat_lt, nat_le, List, length, take, drop, ⊤}
use Rattle.ws_http.specs.declared.fed.BadWhy.{BadWhy}
use Rattle.ws_http.specs.declared.fed.BadWhy.TheVariants as why
use Rattle.ws_http.specs.declared.fed.Fed.{Fed}
use Rattle.ws_http.specs.declared.fed.Fed.TheVariants as fed
use Rattle.ws_http.specs.declared.head.Framing.{Framing}
use Rattle.ws_http.specs.declared.head.Framing.TheVariants as framing
use Rattle.ws_http.specs.declared.head.Judged.{Judged}
use Rattle.ws_http.specs.declared.head.Judged.TheVariants as judged
use Rattle.ws_http.specs.declared.chunk.Next.{Next}
use Rattle.ws_http.specs.declared.chunk.Next.TheVariants as next
use Rattle.ws_http.specs.Heads.{Judges}
use Rattle.ws_http.specs.Chunks.{Chunk, After, Follows, chunk_data, print_chunks}

-- No whole head; a whole and sound head without a whole message; a whole message of so many bytes,
-- with its body; or a fault, and whether it stands behind a whole and sound head.
pub data Verdict : Type 0 where
  unfinished : Verdict
  headed : Verdict
  whole : ℕ → List ℕ → Verdict
  bad : BadWhy → Bool → Verdict

-- A message with a head of so many bytes and a body of a declared length n.
abbrev pub fixed_verdict : ℕ → ℕ → ℕ → List ℕ → Verdict
fixed_verdict room head n bytes =
    if nat_lt room (head + n) then bad why.TooLong false
    else if nat_le (head + n) (length bytes) then whole (head + n) (take n (drop head bytes)) else headed

-- What stands behind the whole chunks: of a chunked message only the first `room` bytes are looked
-- at, and the first byte past them is a fault.
abbrev pub Ends : ℕ → ℕ → List ℕ → List Chunk → Next → Verdict → Type 0
Ends room head bytes chunks next.Open v = v ≡ (if nat_lt room (length bytes) then bad why.TooLong true else headed)
Ends room head bytes chunks next.Wrong v = v ≡ bad why.Chunk true
Ends room head bytes chunks (next.Chunk line size) v = ⊥
Ends room head bytes chunks (next.Last used) v = v ≡ whole (head + length (print_chunks chunks) + used) (chunk_data chunks)

-- a message with a head of so many bytes and a chunked body
pub record ChunkedVerdict (room head : ℕ) (bytes : List ℕ) (v : Verdict) : Type 0 where
  pub chunks : List Chunk
  pub rest : List ℕ
  pub next : Next
  pub after : After (drop head (take room bytes)) chunks rest
  pub follows : Follows rest next
  pub ends : Ends room head bytes chunks next v

-- a message with a sound head of so many bytes that declares this framing
abbrev pub FramedVerdict : ℕ → ℕ → List ℕ → Framing → Verdict → Type 0
FramedVerdict room head bytes (framing.Fixed n) v = v ≡ fixed_verdict room head n bytes
FramedVerdict room head bytes framing.Chunked v = ChunkedVerdict room head bytes v

-- a message whose front is judged so
abbrev pub HeadVerdict : ℕ → List ℕ → Judged → Verdict → Type 0
HeadVerdict room bytes judged.Open v = v ≡ (if nat_lt 16384 (length bytes) then bad why.TooLong false else unfinished)
HeadVerdict room bytes (judged.Bad reason) v = v ≡ bad reason false
HeadVerdict room bytes (judged.Head len framing) v = FramedVerdict room len bytes framing v

-- The verdict on the bytes of a request that have come. Only the first 16,384 are looked at for the head.
pub record IsRequest (room : ℕ) (bytes : List ℕ) (v : Verdict) : Type 0 where
  pub front : Judged
  pub judges : Judges (take 16384 bytes) front
  pub says : HeadVerdict room bytes front v

-- nothing that comes later changes it
abbrev pub is_final : Verdict → Bool
is_final unfinished = false
is_final headed = false
is_final (whole n body) = true
is_final (bad reason sound) = true

-- whether the head is whole and sound
abbrev pub is_headed : Verdict → Bool
is_headed unfinished = false
is_headed headed = true
is_headed (whole n body) = true
is_headed (bad reason sound) = sound

-- what is said again after a final verdict
abbrev pub said_again : Verdict → Fed
said_again unfinished = fed.More
said_again headed = fed.More
said_again (whole n body) = fed.Whole 0
said_again (bad reason sound) = fed.Bad reason

-- what is said with a piece that stands behind so many bytes
abbrev pub said : ℕ → Verdict → Verdict → Fed
said before old unfinished = fed.More
said before unfinished headed = fed.Head
said before headed headed = fed.More
said before (whole n body) headed = fed.More
said before (bad reason sound) headed = fed.More
said before old (whole n body) = fed.Whole (n - before)
said before old (bad reason sound) = fed.Bad reason

-- a whole message
abbrev pub IsWhole : Verdict → Type 0
IsWhole unfinished = ⊥
IsWhole headed = ⊥
IsWhole (whole n body) = ⊤
IsWhole (bad reason sound) = ⊥

-- a fault of that reason
abbrev pub IsBad : BadWhy → Verdict → Type 0
IsBad reason unfinished = ⊥
IsBad reason headed = ⊥
IsBad reason (whole n body) = ⊥
IsBad reason (bad found sound) = found ≡ reason

-- what an answer tells of the verdict
abbrev pub Tells : Fed → Verdict → Type 0
Tells fed.More v = is_final v ≡ false
Tells fed.Head v = v ≡ headed
Tells (fed.Whole used) v = IsWhole v
Tells (fed.Bad reason) v = IsBad reason v
Tells fed.NoMemory v = ⊥
