-- The chunked body (RFC 9112, section 7.1), on the chunk lines and the field sections of the crate
-- `httparse`: whole chunks one after another, and what stands behind them.
use Rattle.std.specs.Prelude.{◌≡◌, ℕ, ◌+◌, ◌<◌, ◌≤◌, ◌&&◌, if◌then◌else◌, ◌==◌, nat_lt, List, [], ◌∷◌, ◌++◌, length, take, drop, MatchBool, ⊤}
use Rattle.std.specs.List.{flat_map, AllByRecursion}
use Rattle.httparse.specs.Ascii.{crlf_bytes}
use Rattle.httparse.specs.Grammar.{LineEnd, Field, print_section, ReadsSection, HasNoSection, MayBecomeSection, NeverHasSection, ChunkLine, chunk_size, print_chunk_line, IsChunkLine, ReadsChunkLine, HasNoChunkLine, MayBecomeChunkLine, NeverHasChunkLine}
use Rattle.ws_http.specs.declared.chunk.Line.{Line}
use Rattle.ws_http.specs.declared.chunk.Line.TheVariants as line
use Rattle.ws_http.specs.declared.chunk.Section.{Section}
use Rattle.ws_http.specs.declared.chunk.Section.TheVariants as section
use Rattle.ws_http.specs.declared.chunk.Next.{Next}
use Rattle.ws_http.specs.declared.chunk.Next.TheVariants as next

-- chunk = chunk-size [ chunk-ext ] CRLF chunk-data CRLF
pub record Chunk : Type 0 where
  pub line : ChunkLine
  pub content : List ℕ

-- the bytes of a chunk
abbrev pub print_chunk : Chunk → List ℕ
print_chunk c = print_chunk_line c.line ++ (c.content ++ crlf_bytes)

-- the line says how long the data is, and there is some
pub record IsChunk (c : Chunk) : Type 0 where
  pub line : IsChunkLine c.line
  pub size : chunk_size c.line ≡ length c.content
  pub some : 0 < length c.content

-- the data of the chunks
abbrev pub chunk_data : List Chunk → List ℕ
chunk_data chunks = flat_map (λ c. c.content) chunks

-- the bytes of the chunks
abbrev pub print_chunks : List Chunk → List ℕ
print_chunks chunks = flat_map print_chunk chunks

-- the bytes are these chunks, and then the rest
pub record After (bytes : List ℕ) (chunks : List Chunk) (rest : List ℕ) : Type 0 where
  pub each : AllByRecursion IsChunk chunks
  pub split : bytes ≡ print_chunks chunks ++ rest

-- whole chunks stand behind a front of so many bytes, up to a place
pub record HasChunks (raw body : List ℕ) (head at : ℕ) : Type 0 where
  pub chunks : List Chunk
  pub after : After (drop head raw) chunks (drop at raw)
  pub place : at ≡ head + length (print_chunks chunks)
  pub content : body ≡ chunk_data chunks
  pub inside : at ≤ length raw
  pub small : length body ≤ at

-- What stands behind the data of a chunk: CRLF, the begin of one, or what can't become one.
abbrev pub end_next : ℕ → ℕ → List ℕ → Next
end_next line size [] = next.Open
end_next line size (a ∷ []) = if a == 13 then next.Open else next.Wrong
end_next line size (a ∷ b ∷ more) = if (a == 13) && (b == 10) then next.Chunk line size else next.Wrong

-- what a chunk line that was looked for at the front of the bytes is
abbrev pub LineIs : List ℕ → Line → Type 0
LineIs rest line.Open = HasNoChunkLine rest × MayBecomeChunkLine rest
LineIs rest line.Never = NeverHasChunkLine rest
LineIs rest (line.Whole len size) =
    (l : ChunkLine) × ReadsChunkLine rest l (drop len rest) × (len ≡ length (print_chunk_line l)) × (size ≡ chunk_size l)
    × (len ≤ length rest)

-- what a trailer section that was looked for at the front of the bytes is
abbrev pub SectionIs : List ℕ → Section → Type 0
SectionIs front section.Open = HasNoSection front × MayBecomeSection front
SectionIs front section.Never = NeverHasSection front
SectionIs front (section.Whole len) =
    (fields : List Field) × (last : LineEnd) × ReadsSection front fields last (drop len front)
    × (len ≡ length (print_section fields last)) × (len ≤ length front)

-- A trailer section has its end in the first 16,384 bytes behind the last chunk's line.
abbrev pub trailer_next : ℕ → ℕ → Section → Next
trailer_next line came section.Open = if nat_lt 16384 came then next.Wrong else next.Open
trailer_next line came section.Never = next.Wrong
trailer_next line came (section.Whole len) = next.Last (line + len)

-- what stands behind a last chunk's line of so many bytes
abbrev pub TrailerNext : ℕ → List ℕ → Next → Type 0
TrailerNext line after n = (s : Section) × SectionIs (take 16384 after) s × (n ≡ trailer_next line (length after) s)

-- what stands behind the line of a chunk
abbrev pub LineNext : List ℕ → Line → Next → Type 0
LineNext rest line.Open n = n ≡ next.Open
LineNext rest line.Never n = n ≡ next.Wrong
LineNext rest (line.Whole len size) n =
    MatchBool (size == 0) (TrailerNext len (drop len rest) n) (n ≡ end_next len size (drop size (drop len rest)))

-- What stands where a chunk should begin: an open or a wrong one, a whole one, or the end of the body.
unfoldable pub Follows : List ℕ → Next → Type 0
Follows rest n = (l : Line) × LineIs rest l × LineNext rest l n

-- what was found lies in so many bytes
abbrev pub NextWithin : ℕ → Next → Type 0
NextWithin n next.Open = ⊤
NextWithin n next.Wrong = ⊤
NextWithin n (next.Chunk line size) = line + size + 2 ≤ n
NextWithin n (next.Last used) = used ≤ n
