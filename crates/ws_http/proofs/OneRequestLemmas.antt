-- The bytes of a request have one verdict.
use Rattle.std.proofs.Common.{◌≡◌, ℕ, ◌+◌, Bool, true, false, List, [], length, take, drop, refl, sym, ap, ◌∙◌, subst, append-nil, Option, Some, None, inl, inr}
use Rattle.std.specs.Prelude.{◌⊎◌}
use Rattle.httparse.specs.Grammar.{RequestHead, print_request, print_chunk_line, ReadsRequest, HasNoRequest, MayBecomeRequest, NeverHasRequest, EndsInTarget}
use Rattle.httparse.proofs.GrammarLemmas.{request_unique}
use Rattle.ws_http.specs.declared.fed.BadWhy.TheVariants as why
use Rattle.ws_http.specs.declared.head.Framing.{Framing}
use Rattle.ws_http.specs.declared.head.Framing.TheVariants as framing
use Rattle.ws_http.specs.declared.head.Judged.{Judged}
use Rattle.ws_http.specs.declared.head.Judged.TheVariants as judged
use Rattle.ws_http.specs.declared.chunk.Line.{Line}
use Rattle.ws_http.specs.declared.chunk.Line.TheVariants as line
use Rattle.ws_http.specs.declared.chunk.Next.{Next}
use Rattle.ws_http.specs.declared.chunk.Next.TheVariants as next
use Rattle.ws_http.specs.Fields.{request_framing, has_host, fields_of}
use Rattle.ws_http.specs.Heads.{Judges}
use Rattle.ws_http.specs.Chunks.{Chunk, Follows, LineNext, chunk_data, print_chunks}
use Rattle.ws_http.specs.Requests.{Verdict, whole, Ends, ChunkedVerdict, FramedVerdict, HeadVerdict, IsRequest}
use Rattle.ws_http.proofs.UniqueLemmas.{line_one, next_one, chunk_line_is, chunk_next_is, IsShorter, IsSame, Compared, compare_chunks}

-- ---- the head

-- what a whole head comes to
abbrev framed : ℕ → Option Framing → Judged
framed len None = judged.Bad why.Framing
framed len (Some f) = judged.Head len f

abbrev hosted : Bool → ℕ → Option Framing → Judged
hosted false len f = judged.Bad why.Host
hosted true len f = framed len f

abbrev judge_of : RequestHead → Judged
judge_of h = hosted (has_host h.minor (fields_of h.fields)) (length (print_request h)) (request_framing (fields_of h.fields))

abbrev Sorted : List ℕ → Judged → Type 0
Sorted front j =
    ((HasNoRequest front × MayBecomeRequest front) × (j ≡ judged.Open))
    ⊎ ((NeverHasRequest front × (j ≡ judged.Bad why.Head)) ⊎ ((h : RequestHead) × (rest : List ℕ) × ReadsRequest front h rest × (j ≡ judge_of h)))

sorted : (front : List ℕ) (j : Judged) → Judges front j → Sorted front j
sorted front judged.Open x = inl (x, refl)
sorted front (judged.Bad why.Head) x = inr (inl (x, refl))
sorted front (judged.Bad why.Host) x =
    inr (inr (x.0, x.1, x.2, sym (ap (λ (b : Bool). hosted b (length (print_request x.0)) (request_framing (fields_of x.0.fields))) x.3)))
sorted front (judged.Bad why.Framing) x =
    inr (inr (x.0, x.1, x.2, sym (λ i. hosted (x.3 i) (length (print_request x.0)) (x.4 i))))
sorted front (judged.Bad why.TooLong) x = absurd x
sorted front (judged.Bad why.Chunk) x = absurd x
sorted front (judged.Bad why.Cut) x = absurd x
sorted front (judged.Head len f) x =
    let s = x.1 in
    inr (inr (
      x.0,
      s.rest,
      s.reads,
      ap (λ (k : ℕ). judged.Head k f) x.2
          ∙ sym (λ i. hosted (s.host i) (length (print_request x.0)) (s.framed i)),
    ))

never_reads : (front : List ℕ) (h : RequestHead) (rest : List ℕ) → NeverHasRequest front → ReadsRequest front h rest → ⊥
never_reads front h rest never reads = never [] h rest (subst (λ (t : List ℕ). ReadsRequest t h rest) (sym (append-nil front)) reads)

never_may : (front : List ℕ) → ¬ (EndsInTarget front) → NeverHasRequest front → MayBecomeRequest front → ⊥
never_may front out never (inl m) = never m.0 m.1 [] m.2
never_may front out never (inr e) = out e

sorted_one : (front : List ℕ) (j k : Judged) → ¬ (EndsInTarget front) → Sorted front j → Sorted front k → j ≡ k
sorted_one front j k out (inl x) (inl y) = x.1 ∙ sym y.1
sorted_one front j k out (inl x) (inr (inl y)) = absurd (never_may front out y.0 x.0.1)
sorted_one front j k out (inl x) (inr (inr y)) = absurd (x.0.0 y.0 y.1 y.2)
sorted_one front j k out (inr (inl x)) (inl y) = absurd (never_may front out x.0 y.0.1)
sorted_one front j k out (inr (inl x)) (inr (inl y)) = x.1 ∙ sym y.1
sorted_one front j k out (inr (inl x)) (inr (inr y)) = absurd (never_reads front y.0 y.1 x.0 y.2)
sorted_one front j k out (inr (inr x)) (inl y) = absurd (y.0.0 x.0 x.1 x.2)
sorted_one front j k out (inr (inr x)) (inr (inl y)) = absurd (never_reads front x.0 x.1 y.0 x.2)
sorted_one front j k out (inr (inr x)) (inr (inr y)) = x.3 ∙ ap judge_of (request_unique front x.0 y.0 x.1 y.1 x.2 y.2).0 ∙ sym y.3

-- ---- the body

module _ (room head : ℕ) (bytes : List ℕ) where
  ends_one : (cs ds : List Chunk) (k : Next) (v w : Verdict) → chunk_data cs ≡ chunk_data ds → print_chunks cs ≡ print_chunks ds
      → Ends room head bytes cs k v → Ends room head bytes ds k w → v ≡ w
  ends_one cs ds next.Open v w content text x y = x ∙ sym y
  ends_one cs ds next.Wrong v w content text x y = x ∙ sym y
  ends_one cs ds (next.Chunk l s) v w content text x y = absurd x
  ends_one cs ds (next.Last used) v w content text x y = x ∙ (λ i. whole (head + length (text i) + used) (content i)) ∙ sym y

  follows_one : (rest : List ℕ) (k j : Next) → Follows rest k → Follows rest j → k ≡ j
  unfolding Follows
  follows_one rest k j x y =
      next_one rest x.0 k j x.2 (subst (λ (l : Line). LineNext rest l j) (sym (line_one rest x.0 y.0 x.1 y.1)) y.2)

  same_one : (v w : Verdict) (p : ChunkedVerdict room head bytes v) (q : ChunkedVerdict room head bytes w)
      → IsSame p.chunks q.chunks p.rest q.rest → v ≡ w
  same_one v w p q s =
      let k = follows_one p.rest p.next q.next p.follows (subst (λ (t : List ℕ). Follows t q.next) (sym s.rest) q.follows) in
      ends_one p.chunks q.chunks p.next v w s.content s.text p.ends (subst (λ (x : Next). Ends room head bytes q.chunks x w) (sym k) q.ends)

  chunk_follows : (cs ds : List Chunk) (rest : List ℕ) (k : Next) → Follows rest k → (s : IsShorter cs ds rest)
      → k ≡ next.Chunk (length (print_chunk_line s.chunk.line)) (length s.chunk.content)
  unfolding Follows
  chunk_follows cs ds rest k f s =
      let l = line_one rest f.0 (line.Whole (length (print_chunk_line s.chunk.line)) (length s.chunk.content)) f.1
      (chunk_line_is rest s.behind s.chunk s.is s.split) in
      chunk_next_is rest s.behind s.chunk k s.is s.split (subst (λ (x : Line). LineNext rest x k) l f.2)

  no_shorter : (v : Verdict) (p : ChunkedVerdict room head bytes v) (ds : List Chunk) → IsShorter p.chunks ds p.rest → ⊥
  no_shorter v p ds s = subst (λ (k : Next). Ends room head bytes p.chunks k v) (chunk_follows p.chunks ds p.rest p.next p.follows s) p.ends

  compared_one : (v w : Verdict) (p : ChunkedVerdict room head bytes v) (q : ChunkedVerdict room head bytes w)
      → Compared p.chunks q.chunks p.rest q.rest → v ≡ w
  compared_one v w p q (inl s) = same_one v w p q s
  compared_one v w p q (inr (inl s)) = absurd (no_shorter v p q.chunks s)
  compared_one v w p q (inr (inr s)) = absurd (no_shorter w q p.chunks s)

  framed_one : (f : Framing) (v w : Verdict) → FramedVerdict room head bytes f v → FramedVerdict room head bytes f w → v ≡ w
  framed_one (framing.Fixed n) v w x y = x ∙ sym y
  framed_one framing.Chunked v w p q =
      compared_one v w p q (compare_chunks (drop head (take room bytes)) p.chunks q.chunks p.rest q.rest p.after.each q.after.each p.after.split q.after.split)

head_one : (room : ℕ) (bytes : List ℕ) (j : Judged) (v w : Verdict) → HeadVerdict room bytes j v → HeadVerdict room bytes j w → v ≡ w
head_one room bytes judged.Open v w x y = x ∙ sym y
head_one room bytes (judged.Bad reason) v w x y = x ∙ sym y
head_one room bytes (judged.Head len f) v w x y = framed_one room len bytes f v w x y

pub request_one : (room : ℕ) (bytes : List ℕ) (v w : Verdict) → ¬ (EndsInTarget (take 16384 bytes)) → IsRequest room bytes v → IsRequest room bytes w
    → v ≡ w
request_one room bytes v w out p q =
    let k = sorted_one (take 16384 bytes) p.front q.front out (sorted (take 16384 bytes) p.front p.judges) (sorted (take 16384 bytes) q.front q.judges) in
    head_one room bytes p.front v w p.says (subst (λ (j : Judged). HeadVerdict room bytes j w) (sym k) q.says)
