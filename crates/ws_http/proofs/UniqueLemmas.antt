-- Bytes have one reading: one chunk line, one trailer section, one list of chunks.
use Rattle.std.proofs.Common.{◌≡◌, ℕ, ◌+◌, ◌<◌, ◌≤◌, Bool, true, false, List, [], ◌∷◌, ◌++◌, length, take, drop, refl, sym, ap, ◌∙◌, subst, arith, append_assoc, append-nil, length-append, inl, inr}
use Rattle.std.specs.Prelude.{◌==◌, ◌⊎◌, MatchBool}
use Rattle.std.proofs.lemmas.Bool.Decides.{nat_tests}
use Rattle.std.proofs.lemmas.List.{append_cancel_left}
use Rattle.std.proofs.Math.Seq.{drop-append_seam, take-append_seam}
use Rattle.std.specs.List.{AllByRecursion}
use Rattle.httparse.specs.Ascii.{crlf_bytes}
use Rattle.httparse.specs.Grammar.{ChunkLine, chunk_size, print_chunk_line, ReadsChunkLine, print_section, ReadsSection}
use Rattle.httparse.proofs.ChunkLemmas.{chunk_line_unique}
use Rattle.httparse.proofs.GrammarLemmas.{section_unique}
use Rattle.ws_http.specs.declared.chunk.Line.{Line}
use Rattle.ws_http.specs.declared.chunk.Line.TheVariants as line
use Rattle.ws_http.specs.declared.chunk.Section.{Section}
use Rattle.ws_http.specs.declared.chunk.Section.TheVariants as section
use Rattle.ws_http.specs.declared.chunk.Next.{Next}
use Rattle.ws_http.specs.declared.chunk.Next.TheVariants as next
use Rattle.ws_http.specs.Chunks.{Chunk, IsChunk, LineIs, SectionIs, LineNext, TrailerNext, trailer_next, end_next, print_chunk, print_chunks, chunk_data}

pub line_one : (rest : List ℕ) (l k : Line) → LineIs rest l → LineIs rest k → l ≡ k
line_one rest line.Open line.Open x y = refl
line_one rest line.Open line.Never x y = absurd (y x.1.0 x.1.1 [] x.1.2)
line_one rest line.Open (line.Whole len size) x y = absurd (x.0 y.0 (drop len rest) y.1)
line_one rest line.Never line.Open x y = absurd (x y.1.0 y.1.1 [] y.1.2)
line_one rest line.Never line.Never x y = refl
line_one rest line.Never (line.Whole len size) x y =
    absurd (x [] y.0 (drop len rest) (subst (λ (t : List ℕ). ReadsChunkLine t y.0 (drop len rest)) (sym (append-nil rest)) y.1))
line_one rest (line.Whole len size) line.Open x y = absurd (y.0 x.0 (drop len rest) x.1)
line_one rest (line.Whole len size) line.Never x y =
    absurd (y [] x.0 (drop len rest) (subst (λ (t : List ℕ). ReadsChunkLine t x.0 (drop len rest)) (sym (append-nil rest)) x.1))
line_one rest (line.Whole len size) (line.Whole long more) x y =
    let same = (chunk_line_unique rest x.0 y.0 (drop len rest) (drop long rest) x.1 y.1).0 in
    let a : len ≡ long = x.2 ∙ ap (λ (c : ChunkLine). length (print_chunk_line c)) same ∙ sym y.2 in
    let b : size ≡ more = x.3 ∙ ap chunk_size same ∙ sym y.3 in
    λ i. line.Whole (a i) (b i)

section_one : (front : List ℕ) (s t : Section) → SectionIs front s → SectionIs front t → s ≡ t
section_one front section.Open section.Open x y = refl
section_one front section.Open section.Never x y = absurd (y x.1.0 x.1.1 x.1.2 [] x.1.3)
section_one front section.Open (section.Whole len) x y = absurd (x.0 y.0 y.1 (drop len front) y.2)
section_one front section.Never section.Open x y = absurd (x y.1.0 y.1.1 y.1.2 [] y.1.3)
section_one front section.Never section.Never x y = refl
section_one front section.Never (section.Whole len) x y =
    absurd (x [] y.0 y.1 (drop len front) (subst (λ (t : List ℕ). ReadsSection t y.0 y.1 (drop len front)) (sym (append-nil front)) y.2))
section_one front (section.Whole len) section.Open x y = absurd (y.0 x.0 x.1 (drop len front) x.2)
section_one front (section.Whole len) section.Never x y =
    absurd (y [] x.0 x.1 (drop len front) (subst (λ (t : List ℕ). ReadsSection t x.0 x.1 (drop len front)) (sym (append-nil front)) x.2))
section_one front (section.Whole len) (section.Whole long) x y =
    let same = section_unique front x.0 y.0 x.1 y.1 (drop len front) (drop long front) x.2 y.2 in
    let text : length (print_section x.0 x.1) ≡ length (print_section y.0 y.1) = λ i. length (print_section (same.0 i) (same.1 i)) in
    ap section.Whole (x.3 ∙ text ∙ sym y.3)

next_by : (rest : List ℕ) (len size : ℕ) (n m : Next) (b : Bool)
    → MatchBool b (TrailerNext len (drop len rest) n) (n ≡ end_next len size (drop size (drop len rest)))
    → MatchBool b (TrailerNext len (drop len rest) m) (m ≡ end_next len size (drop size (drop len rest))) → n ≡ m
next_by rest len size n m true x y =
    x.2 ∙ ap (λ (s : Section). trailer_next len (length (drop len rest)) s) (section_one (take 16384 (drop len rest)) x.0 y.0 x.1 y.1) ∙ sym y.2
next_by rest len size n m false x y = x ∙ sym y

pub next_one : (rest : List ℕ) (l : Line) (n m : Next) → LineNext rest l n → LineNext rest l m → n ≡ m
next_one rest line.Open n m x y = x ∙ sym y
next_one rest line.Never n m x y = x ∙ sym y
next_one rest (line.Whole len size) n m x y = next_by rest len size n m (size == 0) x y

-- ---- a whole chunk

same_front : (a b x y : List ℕ) → length a ≡ length b → a ++ x ≡ b ++ y → a ≡ b
same_front a b x y len e =
    sym (take-append_seam a x) ∙ (λ i. take (len i) (e i)) ∙ take-append_seam b y

-- the line and what stands behind it
chunk_split : (rest q : List ℕ) (d : Chunk) → rest ≡ print_chunk d ++ q → rest ≡ print_chunk_line d.line ++ (d.content ++ (crlf_bytes ++ q))
chunk_split rest q d e =
    e ∙ append_assoc (print_chunk_line d.line) (d.content ++ crlf_bytes) q
    ∙ ap (λ (t : List ℕ). print_chunk_line d.line ++ t) (append_assoc d.content crlf_bytes q)

pub chunk_one : (rest r q : List ℕ) (c d : Chunk) → IsChunk c → IsChunk d → rest ≡ print_chunk c ++ r → rest ≡ print_chunk d ++ q
    → (c.content ≡ d.content) × (print_chunk c ≡ print_chunk d) × (r ≡ q)
chunk_one rest r q c d x y e f =
    let s = chunk_line_unique rest c.line d.line (c.content ++ (crlf_bytes ++ r)) (d.content ++ (crlf_bytes ++ q))
    (x.line, chunk_split rest r c e) (y.line, chunk_split rest q d f) in
    let size : length c.content ≡ length d.content = sym x.size ∙ ap chunk_size s.0 ∙ y.size in
    let content = same_front c.content d.content (crlf_bytes ++ r) (crlf_bytes ++ q) size s.1 in
    let text : print_chunk c ≡ print_chunk d = λ i. print_chunk_line (s.0 i) ++ (content i ++ crlf_bytes) in
    (content, text, append_cancel_left (print_chunk d) r q (ap (λ (t : List ℕ). t ++ r) (sym text) ∙ sym e ∙ f))

-- where a whole chunk stands, its line does
pub chunk_line_is : (rest q : List ℕ) (d : Chunk) → IsChunk d → rest ≡ print_chunk d ++ q
    → LineIs rest (line.Whole (length (print_chunk_line d.line)) (length d.content))
chunk_line_is rest q d is e =
    let s = chunk_split rest q d e in
    let behind : drop (length (print_chunk_line d.line)) rest ≡ d.content ++ (crlf_bytes ++ q) =
    ap (λ (t : List ℕ). drop (length (print_chunk_line d.line)) t) s
    ∙ drop-append_seam (print_chunk_line d.line) (d.content ++ (crlf_bytes ++ q)) in (
      d.line,
      (is.line, s ∙ ap (λ (t : List ℕ). print_chunk_line d.line ++ t) (sym behind)),
      refl,
      sym is.size,
      omega (arith, ap length s, length-append (print_chunk_line d.line) (d.content ++ (crlf_bytes ++ q))),
    )

found_by : (len size : ℕ) (rest : List ℕ) (n : Next) (b : Bool) → (size == 0) ≡ b → 0 < size
    → MatchBool b (TrailerNext len (drop len rest) n) (n ≡ end_next len size (drop size (drop len rest)))
    → n ≡ end_next len size (drop size (drop len rest))
found_by len size rest n true t some m = let none : size ≡ 0 = grind (arith, nat_tests, t) in absurd (omega (arith, none, some))
found_by len size rest n false t some m = m

-- and the chunk is what stands there
pub chunk_next_is : (rest q : List ℕ) (d : Chunk) (n : Next) → IsChunk d → rest ≡ print_chunk d ++ q
    → LineNext rest (line.Whole (length (print_chunk_line d.line)) (length d.content)) n
    → n ≡ next.Chunk (length (print_chunk_line d.line)) (length d.content)
chunk_next_is rest q d n is e m =
    let len = length (print_chunk_line d.line) in
    let size = length d.content in
    let behind : drop size (drop len rest) ≡ crlf_bytes ++ q =
    ap (λ (t : List ℕ). drop size (drop len t)) (chunk_split rest q d e)
    ∙ ap (λ (t : List ℕ). drop size t) (drop-append_seam (print_chunk_line d.line) (d.content ++ (crlf_bytes ++ q)))
    ∙ drop-append_seam d.content (crlf_bytes ++ q) in
    found_by len size rest n (size == 0) refl is.some m ∙ ap (λ (t : List ℕ). end_next len size t) behind

-- ---- lists of chunks

-- a whole chunk begins what stands behind the first list, and the data of the second list has its data too
pub record IsShorter (cs ds : List Chunk) (r : List ℕ) : Type 0 where
  pub chunk : Chunk
  pub is : IsChunk chunk
  pub behind : List ℕ
  pub split : r ≡ print_chunk chunk ++ behind
  pub counted : length (chunk_data cs) + length chunk.content ≤ length (chunk_data ds)

-- the same chunks
pub record IsSame (cs ds : List Chunk) (r q : List ℕ) : Type 0 where
  pub content : chunk_data cs ≡ chunk_data ds
  pub text : print_chunks cs ≡ print_chunks ds
  pub rest : r ≡ q

abbrev pub Compared : List Chunk → List Chunk → List ℕ → List ℕ → Type 0
Compared cs ds r q = IsSame cs ds r q ⊎ (IsShorter cs ds r ⊎ IsShorter ds cs q)

longer : (c d : Chunk) (cs ds : List Chunk) (r q : List ℕ) → c.content ≡ d.content → print_chunk c ≡ print_chunk d → Compared cs ds r q
    → Compared (c ∷ cs) (d ∷ ds) r q
longer c d cs ds r q same text (inl s) =
    inl (record { content = λ i. same i ++ s.content i; text = λ i. text i ++ s.text i; rest = s.rest })
longer c d cs ds r q same text (inr (inl s)) = inr (inl (record {
  chunk = s.chunk;
  is = s.is;
  behind = s.behind;
  split = s.split;
  counted = omega (arith, s.counted, ap length same, length-append c.content (chunk_data cs), length-append d.content (chunk_data ds));
}))
longer c d cs ds r q same text (inr (inr s)) = inr (inr (record {
  chunk = s.chunk;
  is = s.is;
  behind = s.behind;
  split = s.split;
  counted = omega (arith, s.counted, ap length same, length-append c.content (chunk_data cs), length-append d.content (chunk_data ds));
}))

pub compare_chunks : (x : List ℕ) (cs ds : List Chunk) (r q : List ℕ) → AllByRecursion IsChunk cs → AllByRecursion IsChunk ds
    → x ≡ print_chunks cs ++ r → x ≡ print_chunks ds ++ q → Compared cs ds r q
compare_chunks x [] [] r q a b e f = inl (record { content = refl; text = refl; rest = sym e ∙ f })
compare_chunks x [] (d ∷ ds) r q a b e f = inr (inl (record {
  chunk = d;
  is = b.0;
  behind = print_chunks ds ++ q;
  split = sym e ∙ f ∙ append_assoc (print_chunk d) (print_chunks ds) q;
  counted = omega (arith, length-append d.content (chunk_data ds));
}))
compare_chunks x (c ∷ cs) [] r q a b e f = inr (inr (record {
  chunk = c;
  is = a.0;
  behind = print_chunks cs ++ r;
  split = sym f ∙ e ∙ append_assoc (print_chunk c) (print_chunks cs) r;
  counted = omega (arith, length-append c.content (chunk_data cs));
}))
compare_chunks x (c ∷ cs) (d ∷ ds) r q a b e f =
    let s = chunk_one x (print_chunks cs ++ r) (print_chunks ds ++ q) c d a.0 b.0
    (e ∙ append_assoc (print_chunk c) (print_chunks cs) r) (f ∙ append_assoc (print_chunk d) (print_chunks ds) q) in
    longer c d cs ds r q s.0 s.1 (compare_chunks (print_chunks cs ++ r) cs ds r q a.1 b.1 refl s.2)
