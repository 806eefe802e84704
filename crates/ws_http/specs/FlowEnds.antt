-- Where the reading of a chunked body stops.
use Rattle.std.specs.Prelude.{◌≡◌, ℕ, ◌+◌, ◌-◌, ◌<◌, ◌≤◌, Bool, true, false, List, ◌++◌, length, take, drop, ⊤}
use Rattle.ws_http.specs.declared.fed.Need.{Need}
use Rattle.ws_http.specs.declared.fed.Need.TheVariants as need
use Rattle.ws_http.specs.declared.chunk.Line.{Line}
use Rattle.ws_http.specs.declared.chunk.Next.TheVariants as next
use Rattle.ws_http.specs.declared.flow.DataEnd.{DataEnd}
use Rattle.ws_http.specs.declared.flow.DataEnd.TheVariants as end
use Rattle.ws_http.specs.declared.flow.Step.{Step}
use Rattle.ws_http.specs.declared.flow.Step.TheVariants as step
use Rattle.ws_http.specs.declared.flow.Place.{Place}
use Rattle.ws_http.specs.declared.flow.Point.{Point}
use Rattle.ws_http.specs.declared.flow.Place.TheVariants as place
use Rattle.ws_http.specs.Flow.{Flows}
use Rattle.ws_http.specs.Chunks.{HasChunks, LineIs, LineNext}
use Rattle.ws_http.specs.declared.flow.Quota.{Quota}
use Rattle.ws_http.specs.Responses.{is_over}
use Rattle.ws_http.specs.ResponseFields.{kept_of}

-- the part of more data that is kept behind so many bytes
abbrev pub more_of : Need → ℕ → List ℕ → List ℕ
more_of need.Status before content = take 0 content
more_of need.Short before content = take (41 - before) content
more_of need.Full before content = content

-- how many bytes of data are kept at most
abbrev pub most_of : Need → ℕ → ℕ
most_of need.Status limit = 0
most_of need.Short limit = 41
most_of need.Full limit = limit

-- whole chunks stand in the bytes up to a place, with so much data, of which the part that is asked for is kept
pub record HasData (q : Quota) (bytes body : List ℕ) (place size : ℕ) : Type 0 where
  pub content : List ℕ
  pub read : HasChunks bytes content 0 place
  pub kept : body ≡ kept_of q.need content
  pub counted : size ≡ length content
  pub small : length content ≤ q.limit

-- whole chunks up to a place, and the line that stands there
pub record StopsAt (q : Quota) (bytes body : List ℕ) (place size : ℕ) (over : Bool) (l : Line) : Type 0 where
  pub read : HasData q bytes body place size
  pub is : LineIs (drop place bytes) l
  pub over_is : is_over q.limit size (length (drop place bytes)) l ≡ over

-- what is held back isn't whole
abbrev pub IsIdle : List ℕ → Place → Type 0
IsIdle held place.Line = (l : Line) × LineIs held l × LineNext held l next.Open
IsIdle held (place.Data left) = ⊤

-- where the reading of a chunked body stops
abbrev pub IsDataEnd : Quota → List ℕ → List ℕ → List ℕ → DataEnd → Type 0
IsDataEnd q came held body (end.Open p) = Flows q came held body p × IsIdle held p.place
IsDataEnd q came held body end.Over =
    (kept : List ℕ) × (place : ℕ) × (size : ℕ) × (l : Line) × StopsAt q came kept place size true l
IsDataEnd q came held body end.Wrong =
    (kept : List ℕ) × (place : ℕ) × (size : ℕ) × (l : Line) × StopsAt q came kept place size false l
    × LineNext (drop place came) l next.Wrong
IsDataEnd q came held body (end.Last total) =
    (place : ℕ) × (size : ℕ) × (used : ℕ) × (l : Line) × StopsAt q came body place size false l
    × LineNext (drop place came) l (next.Last used) × (total ≡ place + used) × (total ≤ length came)
IsDataEnd q came held body end.NoMemory = ⊤

-- what a step over a piece comes to
abbrev pub IsStep : Quota → List ℕ → List ℕ → List ℕ → List ℕ → Step → Type 0
IsStep q came piece held body (step.On p used) = Flows q (came ++ take used piece) held body p
IsStep q came piece held body (step.Stop e) = IsDataEnd q (came ++ piece) held body e

-- whether there was no memory
abbrev pub lacks_memory : DataEnd → Bool
lacks_memory (end.Open p) = false
lacks_memory end.Over = false
lacks_memory end.Wrong = false
lacks_memory (end.Last total) = false
lacks_memory end.NoMemory = true

-- a step for which there was memory
abbrev pub HasMemory : Step → Type 0
HasMemory (step.On p used) = ⊤
HasMemory (step.Stop e) = lacks_memory e ≡ false

-- a step that goes on reads some bytes of the piece, and counts them
abbrev pub Advances : List ℕ → Point → Step → Type 0
Advances piece from (step.On p used) = (0 < used) × (used ≤ length piece) × (p.count ≡ from.count + used)
Advances piece from (step.Stop e) = ⊤

-- no more bytes are kept than were, and those of the piece that were read
abbrev pub IsShort : ℕ → ℕ → ℕ → Step → Type 0
IsShort old piece new (step.On p used) = new ≤ old + used
IsShort old piece new (step.Stop e) = new ≤ old + piece
