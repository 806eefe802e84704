-- A chunked body whose data goes where it is kept as it comes: what is held back of its bytes.
use Rattle.std.specs.Prelude.{◌≡◌, ℕ, ◌+◌, ◌<◌, ◌≤◌, List, [], ◌++◌, length, drop}
use Rattle.ws_http.specs.declared.chunk.Line.TheVariants as line
use Rattle.ws_http.specs.declared.chunk.Next.TheVariants as next
use Rattle.ws_http.specs.declared.flow.Place.{Place}
use Rattle.ws_http.specs.declared.flow.Place.TheVariants as place
use Rattle.ws_http.specs.declared.flow.Point.{Point}
use Rattle.ws_http.specs.declared.flow.Quota.{Quota}
use Rattle.ws_http.specs.Chunks.{HasChunks, LineIs, end_next}
use Rattle.ws_http.specs.ResponseFields.{kept_of}

-- where no byte came
abbrev pub begin : Point
begin = record { place = place.Line; count = 0; size = 0 }

-- no line of a chunk with data stands at the front of the bytes
abbrev pub IsShut : List ℕ → Type 0
IsShut held = (len size : ℕ) → LineIs held (line.Whole len size) → size ≡ 0

-- all bytes from the chunk line's first on are held back
pub record AtLine (rest held more : List ℕ) : Type 0 where
  pub all : held ≡ rest
  pub none : more ≡ []
  pub shut : IsShut held

-- A chunk's line is whole. So much of its data is missing; then what is held back is the begin of the line's end.
pub record InData (rest held more : List ℕ) (left : ℕ) : Type 0 where
  pub len : ℕ
  pub size : ℕ
  pub line : LineIs rest (line.Whole len size)
  pub some : 0 < size
  pub split : drop len rest ≡ more ++ held
  pub missing : left + length more ≡ size
  pub none : 0 < left → held ≡ []
  pub end : end_next len size held ≡ next.Open

-- what stands behind the whole chunks, of which some is held back and some is data
abbrev pub IsHeld : List ℕ → List ℕ → List ℕ → Place → Type 0
IsHeld rest held more place.Line = AtLine rest held more
IsHeld rest held more (place.Data left) = InData rest held more left

-- The bytes of a chunked body that came are whole chunks, and a rest whose bytes are held back but for its data.
-- Of all data, which is within its limit, the part that is asked for is kept.
pub record Flows (q : Quota) (came held body : List ℕ) (p : Point) : Type 0 where
  pub content : List ℕ
  pub more : List ℕ
  pub at : ℕ
  pub read : HasChunks came content 0 at
  pub behind : IsHeld (drop at came) held more p.place
  pub kept : body ≡ kept_of q.need (content ++ more)
  pub counted : p.size ≡ length (content ++ more)
  pub small : p.size ≤ q.limit
  pub count : p.count ≡ length came
