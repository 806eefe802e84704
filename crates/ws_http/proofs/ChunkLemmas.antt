-- What stands where a chunk should begin.
use Rattle.std.proofs.Common.{◌≡◌, ℕ, ◌+◌, ◌<◌, ◌≤◌, Bool, true, false, cond, List, [], ◌∷◌, ◌++◌, length, take, drop, refl, sym, ap, ◌∙◌, subst, arith, eq-eqb, append_assoc, length-append, length-drop, length-take-le, take-append-drop, drop-drop}
use Rattle.std.specs.Prelude.{MatchBool, ◌==◌, ◌&&◌}
use Rattle.std.specs.List.{AllByRecursion}
use Rattle.std.proofs.lemmas.Bool.Decides.{nat_tests}
use Rattle.std.proofs.lemmas.List.{flat_map_more}
use Rattle.httparse.specs.Ascii.{crlf_bytes}
use Rattle.httparse.specs.Grammar.{print_chunk_line}
use Rattle.ws_http.specs.declared.chunk.Line.{Line}
use Rattle.ws_http.specs.declared.chunk.Line.TheVariants as line
use Rattle.ws_http.specs.declared.chunk.Section.{Section}
use Rattle.ws_http.specs.declared.chunk.Section.TheVariants as section
use Rattle.ws_http.specs.declared.chunk.Next.{Next}
use Rattle.ws_http.specs.declared.chunk.Next.TheVariants as next
use Rattle.ws_http.specs.Chunks.{Follows, LineIs, LineNext, TrailerNext, trailer_next, end_next, Chunk, IsChunk, print_chunk, print_chunks, chunk_data, After}

-- behind a line with the size 0 stands the trailer section
pub behind_last : (rest : List ℕ) (len size : ℕ) (n : Next) → size ≡ 0 → TrailerNext len (drop len rest) n → LineNext rest (line.Whole len size) n
behind_last rest len size n zero t =
    subst (λ (b : Bool). MatchBool b (TrailerNext len (drop len rest) n) (n ≡ end_next len size (drop size (drop len rest))))
    (sym (eq-eqb size 0 zero)) t

-- a chunk was found: its line's length and its size
pub record Found (rest : List ℕ) (len size : ℕ) : Type 0 where
  pub is : LineIs rest (line.Whole len size)
  pub some : 0 < size
  pub more : List ℕ
  pub end : drop size (drop len rest) ≡ 13 ∷ 10 ∷ more

pub no_chunk_by : (b : Bool) (l s : ℕ) → next.Chunk l s ≡ cond b next.Wrong next.Open → ⊥
no_chunk_by true l s e = cc
no_chunk_by false l s e = cc

no_chunk_else : (b : Bool) (l s : ℕ) → next.Chunk l s ≡ cond b next.Open next.Wrong → ⊥
no_chunk_else true l s e = cc
no_chunk_else false l s e = cc

pub no_trailer_chunk : (k came : ℕ) (s : Section) (l n : ℕ) → next.Chunk l n ≡ trailer_next k came s → ⊥
no_trailer_chunk k came section.Open l n e = no_chunk_by _ l n e
no_trailer_chunk k came section.Never l n e = cc
no_trailer_chunk k came (section.Whole len) l n e = cc

chunk_by : (b : Bool) (l s len size : ℕ) → next.Chunk l s ≡ cond b (next.Chunk len size) next.Wrong
    → (b ≡ true) × (l ≡ len) × (s ≡ size)
chunk_by true l s len size e = (refl, cc, cc)
chunk_by false l s len size e = absurd (no_chunk_by true l s e)

pub end_found : (x : List ℕ) (l s len size : ℕ) → next.Chunk l s ≡ end_next len size x
    → (more : List ℕ) × (x ≡ 13 ∷ 10 ∷ more) × (l ≡ len) × (s ≡ size)
end_found [] l s len size e = absurd (no_chunk_by false l s e)
end_found (a ∷ []) l s len size e = absurd (no_chunk_else (a == 13) l s e)
end_found (a ∷ b ∷ more) l s len size e =
    let t = chunk_by ((a == 13) && (b == 10)) l s len size e in
    let first : a ≡ 13 = grind (arith, nat_tests, t.0) in
    let second : b ≡ 10 = grind (arith, nat_tests, t.0) in
    (more, cc, t.1, t.2)

chunk_line : (rest : List ℕ) (len sz l s : ℕ) (b : Bool) → (sz == 0) ≡ b → LineIs rest (line.Whole len sz)
    → MatchBool b (TrailerNext len (drop len rest) (next.Chunk l s)) (next.Chunk l s ≡ end_next len sz (drop sz (drop len rest)))
    → Found rest l s
chunk_line rest len sz l s true t is m = absurd (no_trailer_chunk len _ m.0 l s m.2)
chunk_line rest len sz l s false t is m =
    let e = end_found (drop sz (drop len rest)) l s len sz m in
    let some : 0 < sz = grind (arith, nat_tests, t) in
    let here : Found rest len sz = record { is = is; some = some; more = e.0; end = e.1 } in
    let P : ℕ → ℕ → Type 0 = λ a b. Found rest a b in
    subst (λ (a : ℕ). P a s) (sym e.2) (subst (λ (b : ℕ). P len b) (sym e.3) here)

chunk_at : (rest : List ℕ) (x : Line) (l s : ℕ) → LineIs rest x → LineNext rest x (next.Chunk l s) → Found rest l s
chunk_at rest line.Open l s is n = absurd (no_chunk_by false l s n)
chunk_at rest line.Never l s is n = absurd (no_chunk_by true l s n)
chunk_at rest (line.Whole len sz) l s is n = chunk_line rest len sz l s (sz == 0) refl is n

pub chunk_found : (rest : List ℕ) (l s : ℕ) → Follows rest (next.Chunk l s) → Found rest l s
unfolding Follows
chunk_found rest l s f = chunk_at rest f.0 l s f.1 f.2

-- the chunk that was found, and what stands behind it
pub record Reads (rest : List ℕ) (len size : ℕ) : Type 0 where
  pub chunk : Chunk
  pub is : IsChunk chunk
  pub content : chunk.content ≡ take size (drop len rest)
  pub split : rest ≡ print_chunk chunk ++ drop (len + size + 2) rest
  pub length : length (print_chunk chunk) ≡ len + size + 2

size_inside : (x more : List ℕ) (n : ℕ) → drop n x ≡ 13 ∷ 10 ∷ more → n + 2 ≤ length x
size_inside x more n e = omega (arith, ap length e, length-drop n x)

drop_two : (x more : List ℕ) (n : ℕ) → drop n x ≡ 13 ∷ 10 ∷ more → more ≡ drop (n + 2) x
drop_two x more n e = sym (ap (λ (t : List ℕ). drop 2 t) e) ∙ drop-drop 2 n x

pub chunk_reads : (rest : List ℕ) (len size : ℕ) → Found rest len size → Reads rest len size
chunk_reads rest len size f =
    let l = f.is.0 in
    let after = drop len rest in
    let inside = size_inside after f.more size f.end in
    let taken = length-take-le size after (omega arith) in
    let more = drop_two after f.more size f.end ∙ drop-drop (size + 2) len rest in
    let sum : len + (size + 2) ≡ len + size + 2 = omega arith in
    let behind : f.more ≡ drop (len + size + 2) rest = more ∙ ap (λ (k : ℕ). drop k rest) sum in
    let text : after ≡ take size after ++ (crlf_bytes ++ f.more) = sym (take-append-drop size after) ∙ ap (λ (t : List ℕ). take size after ++ t) f.end in
    let c : Chunk = record { line = l; content = take size after } in
    let whole : rest ≡ print_chunk c ++ f.more =
    f.is.1.1 ∙ ap (λ (t : List ℕ). print_chunk_line l ++ t) text
    ∙ simp append_assoc in
    record {
      chunk = c;
      is = record { line = f.is.1.0; size = sym f.is.3 ∙ sym taken; some = omega (arith, f.some) };
      content = refl;
      split = whole ∙ ap (λ (t : List ℕ). print_chunk c ++ t) behind;
      length = omega (arith, f.is.2, taken, length-append (print_chunk_line l) (take size after ++ crlf_bytes), length-append (take size after) crlf_bytes);
    }

-- ---- chunks one after another

pub all_more : (chunks : List Chunk) (c : Chunk) → AllByRecursion IsChunk chunks → IsChunk c → AllByRecursion IsChunk (chunks ++ c ∷ [])
all_more [] c all is = (is, tt)
all_more (x ∷ xs) c all is = (all.0, all_more xs c all.1 is)

pub print_more : (chunks : List Chunk) (c : Chunk) → print_chunks (chunks ++ c ∷ []) ≡ print_chunks chunks ++ print_chunk c
print_more chunks c = sym (flat_map_more print_chunk [] chunks c)

pub data_more : (chunks : List Chunk) (c : Chunk) → chunk_data (chunks ++ c ∷ []) ≡ chunk_data chunks ++ c.content
data_more chunks c = sym (flat_map_more (λ (x : Chunk). x.content) [] chunks c)

pub after_more : (bytes : List ℕ) (chunks : List Chunk) (c : Chunk) (rest behind : List ℕ) → After bytes chunks rest
    → IsChunk c → rest ≡ print_chunk c ++ behind → After bytes (chunks ++ c ∷ []) behind
after_more bytes chunks c rest behind a is e = record {
  each = all_more chunks c a.each is;
  split = a.split ∙ ap (λ (t : List ℕ). print_chunks chunks ++ t) e ∙ sym (append_assoc (print_chunks chunks) (print_chunk c) behind)
      ∙ ap (λ (t : List ℕ). t ++ behind) (sym (print_more chunks c));
}
