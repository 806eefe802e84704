-- The bytes of a response have one verdict.
use Rattle.std.proofs.Common.{◌≡◌, ℕ, ◌+◌, ◌-◌, ◌<◌, ◌≤◌, Bool, true, false, List, [], ◌∷◌, ◌++◌, length, take, drop, refl, sym, ap, ◌∙◌, subst, arith, append_assoc, append-nil, Option, Some, None, inl, inr}
use Rattle.std.specs.Prelude.{MatchBool, nat_lt, nat_le, min}
use Rattle.std.proofs.lemmas.Bool.Decides.{nat_tests}
use Rattle.std.specs.List.{AllByRecursion}
use Rattle.httparse.specs.Grammar.{ResponseHead, print_response, print_chunk_line, status_code, ReadsResponse, NeverHasResponse}
use Rattle.httparse.proofs.GrammarLemmas.{response_unique}
use Rattle.ws_model.specs.Legal.{body_limit}
use Rattle.ws_http.specs.declared.fed.BadWhy.TheVariants as why
use Rattle.ws_http.specs.declared.fed.Need.{Need}
use Rattle.ws_http.specs.declared.fed.Need.TheVariants as need
use Rattle.ws_http.specs.declared.extent.Extent.{Extent}
use Rattle.ws_http.specs.declared.extent.Extent.TheVariants as extent
use Rattle.ws_http.specs.declared.chunk.Line.{Line}
use Rattle.ws_http.specs.declared.chunk.Line.TheVariants as line
use Rattle.ws_http.specs.declared.chunk.Next.{Next}
use Rattle.ws_http.specs.declared.chunk.Next.TheVariants as next
use Rattle.ws_http.specs.Chunks.{Chunk, IsChunk, print_chunk, LineIs, LineNext, chunk_data, print_chunks}
use Rattle.ws_http.specs.Fields.{fields_of}
use Rattle.ws_http.specs.ResponseFields.{response_extent, reply_of}
use Rattle.ws_http.specs.Responses.{Verdict, whole, bad, is_interim, IsInterim, print_heads, Front, partial, wrong, final, IsFront, FrontSays, FinalSays, BodySays, ChunkedSays, ChunksEnd, is_over, raw_limit, IsResponse}
use Rattle.ws_http.proofs.UniqueLemmas.{line_one, next_one, chunk_line_is, chunk_next_is, IsShorter, IsSame, Compared, compare_chunks}

-- ---- a chunked body

module _ (n : Need) (start : ℕ) (h : ResponseHead) (bytes : List ℕ) where
  ends_one : (cs ds : List Chunk) (k : Next) (v w : Verdict) → chunk_data cs ≡ chunk_data ds → print_chunks cs ≡ print_chunks ds
      → ChunksEnd n start h bytes cs k v → ChunksEnd n start h bytes ds k w → v ≡ w
  ends_one cs ds next.Open v w content text x y = x ∙ sym y
  ends_one cs ds next.Wrong v w content text x y = x ∙ sym y
  ends_one cs ds (next.Chunk l s) v w content text x y = absurd x
  ends_one cs ds (next.Last used) v w content text x y =
      x ∙ (λ i. whole (start + length (text i) + used) (reply_of n h (content i))) ∙ sym y

  says_one : (cs ds : List Chunk) (rest : List ℕ) (l : Line) (v w : Verdict) (b : Bool) → chunk_data cs ≡ chunk_data ds → print_chunks cs ≡ print_chunks ds
      → MatchBool b (v ≡ bad why.TooLong) ((k : Next) × LineNext rest l k × ChunksEnd n start h bytes cs k v)
      → MatchBool b (w ≡ bad why.TooLong) ((k : Next) × LineNext rest l k × ChunksEnd n start h bytes ds k w) → v ≡ w
  says_one cs ds rest l v w true content text x y = x ∙ sym y
  says_one cs ds rest l v w false content text x y =
      ends_one cs ds x.0 v w content text x.2
      (subst (λ (k : Next). ChunksEnd n start h bytes ds k w) (sym (next_one rest l x.0 y.0 x.1 y.1)) y.2)

  same_one : (v w : Verdict) (p : ChunkedSays n start h bytes v) (q : ChunkedSays n start h bytes w)
      → IsSame p.chunks q.chunks p.rest q.rest → v ≡ w
  same_one v w p q s =
      let l = line_one p.rest p.line q.line p.is (subst (λ (t : List ℕ). LineIs t q.line) (sym s.rest) q.is) in
      let heavy : is_over body_limit (length (chunk_data q.chunks)) (length q.rest) q.line ≡ is_over body_limit (length (chunk_data p.chunks)) (length p.rest) p.line =
      λ i. is_over body_limit (length (sym s.content i)) (length (sym s.rest i)) (sym l i) in
      let says = subst (λ (b : Bool). MatchBool b (w ≡ bad why.TooLong) ((k : Next) × LineNext q.rest q.line k × ChunksEnd n start h bytes q.chunks k w))
      heavy q.says in
      let here = subst (λ (t : List ℕ). MatchBool (is_over body_limit (length (chunk_data p.chunks)) (length p.rest) p.line) (w ≡ bad why.TooLong)
      ((k : Next) × LineNext t q.line k × ChunksEnd n start h bytes q.chunks k w)) (sym s.rest) says in
      let there = subst (λ (x : Line). MatchBool (is_over body_limit (length (chunk_data p.chunks)) (length p.rest) p.line) (w ≡ bad why.TooLong)
      ((k : Next) × LineNext p.rest x k × ChunksEnd n start h bytes q.chunks k w)) (sym l) here in
      says_one p.chunks q.chunks p.rest p.line v w (is_over body_limit (length (chunk_data p.chunks)) (length p.rest) p.line) s.content s.text p.says there

  light : (before size room : ℕ) → before + size ≤ body_limit → nat_lt body_limit (before + min size room) ≡ true → ⊥
  light before size room fits e =
      let past : body_limit < before + min size room = grind (arith, nat_tests, e) in
      omega (arith, past, fits)

  no_chunk : (cs : List Chunk) (rest behind : List ℕ) (d : Chunk) (v : Verdict) (b : Bool)
      → (is : IsChunk d) → rest ≡ print_chunk d ++ behind
      → is_over body_limit (length (chunk_data cs)) (length rest) (line.Whole (length (print_chunk_line d.line)) (length d.content)) ≡ b
      → length (chunk_data cs) + length d.content ≤ body_limit
      → MatchBool b (v ≡ bad why.TooLong)
      ((k : Next) × LineNext rest (line.Whole (length (print_chunk_line d.line)) (length d.content)) k × ChunksEnd n start h bytes cs k v) → ⊥
  no_chunk cs rest behind d v true is e heavy fits x =
      light (length (chunk_data cs)) (length d.content) (length rest - length (print_chunk_line d.line)) fits heavy
  no_chunk cs rest behind d v false is e heavy fits x =
      subst (λ (k : Next). ChunksEnd n start h bytes cs k v) (chunk_next_is rest behind d x.0 is e x.1) x.2

  no_shorter : (v : Verdict) (p : ChunkedSays n start h bytes v) (ds : List Chunk) → length (chunk_data ds) ≤ body_limit
      → IsShorter p.chunks ds p.rest → ⊥
  no_shorter v p ds small s =
      let l = line_one p.rest p.line (line.Whole (length (print_chunk_line s.chunk.line)) (length s.chunk.content)) p.is
      (chunk_line_is p.rest s.behind s.chunk s.is s.split) in
      let says = subst (λ (x : Line). MatchBool (is_over body_limit (length (chunk_data p.chunks)) (length p.rest) x) (v ≡ bad why.TooLong)
      ((k : Next) × LineNext p.rest x k × ChunksEnd n start h bytes p.chunks k v)) l p.says in
      no_chunk p.chunks p.rest s.behind s.chunk v _ s.is s.split refl (omega (arith, s.counted, small)) says

  compared_one : (v w : Verdict) (p : ChunkedSays n start h bytes v) (q : ChunkedSays n start h bytes w)
      → Compared p.chunks q.chunks p.rest q.rest → v ≡ w
  compared_one v w p q (inl s) = same_one v w p q s
  compared_one v w p q (inr (inl s)) = absurd (no_shorter v p q.chunks q.small s)
  compared_one v w p q (inr (inr s)) = absurd (no_shorter w q p.chunks p.small s)

  chunked_one : (v w : Verdict) → ChunkedSays n start h bytes v → ChunkedSays n start h bytes w → v ≡ w
  chunked_one v w p q =
      compared_one v w p q (compare_chunks (take raw_limit (drop start bytes)) p.chunks q.chunks p.rest q.rest p.after.each q.after.each p.after.split q.after.split)

  body_one : (x : Option Extent) (v w : Verdict) → BodySays n start h bytes x v → BodySays n start h bytes x w → v ≡ w
  body_one None v w x y = x ∙ sym y
  body_one (Some (extent.Fixed m)) v w x y = x ∙ sym y
  body_one (Some extent.Chunked) v w x y = chunked_one v w x y
  body_one (Some extent.Lasting) v w x y = x ∙ sym y

final_one : (n : Need) (start : ℕ) (h : ResponseHead) (bytes : List ℕ) (v w : Verdict) → FinalSays n start h bytes v → FinalSays n start h bytes w → v ≡ w
final_one need.Status start h bytes v w x y = x ∙ sym y
final_one need.Short start h bytes v w x y = body_one need.Short start h bytes (response_extent (status_code h) (fields_of h.fields)) v w x y
final_one need.Full start h bytes v w x y = body_one need.Full start h bytes (response_extent (status_code h) (fields_of h.fields)) v w x y

front_says_one : (n : Need) (before : ℕ) (bytes : List ℕ) (k : Front) (v w : Verdict) → FrontSays n before bytes k v → FrontSays n before bytes k w → v ≡ w
front_says_one n before bytes partial v w x y = x ∙ sym y
front_says_one n before bytes wrong v w x y = x ∙ sym y
front_says_one n before bytes (final h) v w x y = final_one n (before + length (print_response h)) h bytes v w x y

-- ---- the heads

never_reads : (rest : List ℕ) (h : ResponseHead) (after : List ℕ) → NeverHasResponse rest → ReadsResponse rest h after → ⊥
never_reads rest h after never reads = never [] h after (subst (λ (t : List ℕ). ReadsResponse t h after) (sym (append-nil rest)) reads)

low_high : (rest : List ℕ) (g h : ResponseHead) (r q : List ℕ) (limit : ℕ) → 100 ≤ limit → ReadsResponse rest g r → ReadsResponse rest h q
    → nat_lt (status_code g) 100 ≡ true → nat_le limit (status_code h) ≡ true → ⊥
low_high rest g h r q limit least x y low high =
    let same = ap status_code (response_unique rest g h r q x y).0 in
    let a : status_code g < 100 = grind (arith, nat_tests, low) in
    let b : limit ≤ status_code h = grind (arith, nat_tests, high) in
    omega (arith, a, b, same, least)

front_one : (rest : List ℕ) (j k : Front) → IsFront rest j → IsFront rest k → j ≡ k
front_one rest partial partial x y = refl
front_one rest partial wrong x (inl never) = absurd (never x.1.0 x.1.1 [] x.1.2)
front_one rest partial wrong x (inr low) = absurd (x.0 low.0 low.1 low.2)
front_one rest partial (final h) x y = absurd (x.0 h y.0 y.1)
front_one rest wrong partial (inl never) y = absurd (never y.1.0 y.1.1 [] y.1.2)
front_one rest wrong partial (inr low) y = absurd (y.0 low.0 low.1 low.2)
front_one rest wrong wrong x y = refl
front_one rest wrong (final h) (inl never) y = absurd (never_reads rest h y.0 never y.1)
front_one rest wrong (final h) (inr low) y = absurd (low_high rest low.0 h low.1 y.0 200 (omega arith) low.2 y.1 low.3 y.2)
front_one rest (final h) partial x y = absurd (y.0 h x.0 x.1)
front_one rest (final h) wrong x (inl never) = absurd (never_reads rest h x.0 never x.1)
front_one rest (final h) wrong x (inr low) = absurd (low_high rest low.0 h low.1 x.0 200 (omega arith) low.2 x.1 low.3 x.2)
front_one rest (final g) (final h) x y = ap final (response_unique rest g h x.0 y.0 x.1 y.1).0

interim_between : (code : ℕ) → is_interim code ≡ true → (100 ≤ code) × (code < 200)
interim_between code e = (grind (arith, nat_tests, e), grind (arith, nat_tests, e))

-- no interim head stands behind the last one
no_interim : (rest : List ℕ) (h : ResponseHead) (after : List ℕ) (k : Front) → ReadsResponse rest h after → is_interim (status_code h) ≡ true
    → IsFront rest k → ⊥
no_interim rest h after partial reads code is = is.0 h after reads
no_interim rest h after wrong reads code (inl never) = never_reads rest h after never reads
no_interim rest h after wrong reads code (inr low) =
    let b = interim_between (status_code h) code in
    let least : nat_le 100 (status_code h) ≡ true = grind (arith, nat_tests, b.0) in
    low_high rest low.0 h low.1 after 100 (omega arith) low.2 reads low.3 least
no_interim rest h after (final g) reads code is =
    let same = ap status_code (response_unique rest g h is.0 after is.1 reads).0 in
    let b = interim_between (status_code h) code in
    let high : 200 ≤ status_code g = grind (arith, nat_tests, is.2) in
    omega (arith, same, b.1, high)

interims_one : (x : List ℕ) (is js : List ResponseHead) (r q : List ℕ) (j k : Front) → AllByRecursion IsInterim is → AllByRecursion IsInterim js
    → x ≡ print_heads is ++ r → x ≡ print_heads js ++ q → IsFront r j → IsFront q k → (print_heads is ≡ print_heads js) × (r ≡ q)
interims_one x [] [] r q j k a b e f fr fq = (refl, sym e ∙ f)
interims_one x [] (h ∷ js) r q j k a b e f fr fq =
    absurd (no_interim r h (print_heads js ++ q) j (b.0.head, sym e ∙ f ∙ append_assoc (print_response h) (print_heads js) q) b.0.code fr)
interims_one x (g ∷ is) [] r q j k a b e f fr fq =
    absurd (no_interim q g (print_heads is ++ r) k (a.0.head, sym f ∙ e ∙ append_assoc (print_response g) (print_heads is) r) a.0.code fq)
interims_one x (g ∷ is) (h ∷ js) r q j k a b e f fr fq =
    let s = response_unique x g h (print_heads is ++ r) (print_heads js ++ q) (a.0.head, e ∙ append_assoc (print_response g) (print_heads is) r)
    (b.0.head, f ∙ append_assoc (print_response h) (print_heads js) q) in
    let t = interims_one (print_heads is ++ r) is js r q j k a.1 b.1 refl s.1 fr fq in
    (λ i. print_response (s.0 i) ++ t.0 i, t.1)

pub reply_one : (n : Need) (bytes : List ℕ) (v w : Verdict) → IsResponse n bytes v → IsResponse n bytes w → v ≡ w
reply_one n bytes v w p q =
    let s = interims_one (take 16384 bytes) p.interims q.interims p.rest q.rest p.front q.front p.behind.each q.behind.each p.behind.split q.behind.split
    p.is q.is in
    let k = front_one p.rest p.front q.front p.is (subst (λ (t : List ℕ). IsFront t q.front) (sym s.1) q.is) in
    let here = subst (λ (t : List ℕ). FrontSays n (length t) bytes q.front w) (sym s.0) q.says in
    front_says_one n (length (print_heads p.interims)) bytes p.front v w p.says
    (subst (λ (x : Front). FrontSays n (length (print_heads p.interims)) bytes x w) (sym k) here)
