-- What is final of a response stays so behind more bytes.
use Rattle.std.proofs.Common.{◌≡◌, ℕ, ◌+◌, ◌-◌, ◌<◌, ◌≤◌, Bool, true, false, cond, List, ◌++◌, length, take, drop, refl, sym, ap, ◌∙◌, subst, arith, append_assoc, length-append, length-drop, length-take, Option, Some, None, inl, inr}
use Rattle.std.specs.Prelude.{nat_lt, nat_le, min, ◌==◌, MatchBool}
use Rattle.std.proofs.lemmas.Bool.{false≢true}
use Rattle.std.proofs.lemmas.Bool.Decides.{nat_tests}
use Rattle.std.proofs.lemmas.List.{take-append-le, drop-append-le}
use Rattle.httparse.specs.Grammar.{ResponseHead, print_response, status_code, ReadsResponse, ReadsChunkLine}
use Rattle.ws_model.specs.Legal.{body_limit}
use Rattle.ws_http.specs.declared.fed.BadWhy.TheVariants as why
use Rattle.ws_http.specs.declared.fed.Need.{Need}
use Rattle.ws_http.specs.declared.fed.Need.TheVariants as need
use Rattle.ws_http.specs.declared.extent.Extent.{Extent}
use Rattle.ws_http.specs.declared.extent.Extent.TheVariants as extent
use Rattle.ws_http.specs.declared.chunk.Line.{Line}
use Rattle.ws_http.specs.declared.chunk.Line.TheVariants as line
use Rattle.ws_http.specs.declared.chunk.Next.{Next}
use Rattle.ws_http.specs.declared.chunk.Next.TheVariants as next
use Rattle.ws_http.specs.Chunks.{After, LineIs, LineNext, chunk_data, print_chunks, end_next, TrailerNext}
use Rattle.ws_http.specs.Fields.{fields_of}
use Rattle.ws_http.specs.ResponseFields.{response_extent, reply_of}
use Rattle.ws_http.specs.Responses.{Verdict, unfinished, headed, lasting, whole, bad, is_final, Front, partial, wrong, final, IsFront, FrontSays, FinalSays, BodySays, ChunkedSays, ChunksEnd, fixed_verdict, is_over, raw_limit, print_heads, Behind, IsResponse}
use Rattle.ws_http.proofs.ReaderLemmas.{front_more}
use Rattle.ws_http.proofs.StayLemmas.{IsLast, not_open, next_by, line_more, end_inside}

-- nothing final is one of these
not_final : (v w : Verdict) → v ≡ w → is_final w ≡ false → is_final v ≡ true → ⊥
not_final v w e is_not is_so = false≢true (sym is_not ∙ ap is_final (sym e) ∙ is_so)

-- ---- the heads

behind_more : (x z : List ℕ) (interims : List ResponseHead) (rest : List ℕ) → Behind x interims rest → Behind (x ++ z) interims (rest ++ z)
behind_more x z interims rest b = record {
  each = b.each;
  split = ap (λ (t : List ℕ). t ++ z) b.split ∙ append_assoc (print_heads interims) rest z;
}

reads_more : (x z : List ℕ) (h : ResponseHead) (rest : List ℕ) → ReadsResponse x h rest → ReadsResponse (x ++ z) h (rest ++ z)
reads_more x z h rest r = (r.0, ap (λ (t : List ℕ). t ++ z) r.1 ∙ append_assoc (print_response h) rest z)

wrong_more : (x z : List ℕ) → IsFront x wrong → IsFront (x ++ z) wrong
wrong_more x z (inl never) =
    inl (λ m h rest reads. never (z ++ m) h rest (subst (λ (t : List ℕ). ReadsResponse t h rest) (append_assoc x z m) reads))
wrong_more x z (inr low) = inr (low.0, low.1 ++ z, reads_more x z low.0 low.1 low.2, low.3)

-- ---- a declared length, and a body up to the end

fixed_by : (n : Need) (start : ℕ) (h : ResponseHead) (m : ℕ) (bytes : List ℕ) (a b : Bool) → nat_lt body_limit m ≡ a
    → nat_le (start + m) (length bytes) ≡ b
    → fixed_verdict n start h m bytes ≡ cond a (bad why.TooLong) (cond b (whole (start + m) (reply_of n h (take m (drop start bytes)))) headed)
fixed_by n start h m bytes a b x y =
    λ i. cond (x i) (bad why.TooLong) (cond (y i) (whole (start + m) (reply_of n h (take m (drop start bytes)))) headed)

fixed_stays : (n : Need) (start : ℕ) (h : ResponseHead) (m : ℕ) (bytes more : List ℕ) (v : Verdict) (a b : Bool) → nat_lt body_limit m ≡ a
    → nat_le (start + m) (length bytes) ≡ b → start ≤ length bytes → is_final v ≡ true → v ≡ fixed_verdict n start h m bytes
    → v ≡ fixed_verdict n start h m (bytes ++ more)
fixed_stays n start h m bytes more v true b x y inside fin e =
    e ∙ fixed_by n start h m bytes true b x y ∙ sym (fixed_by n start h m (bytes ++ more) true (nat_le (start + m) (length (bytes ++ more))) x refl)
fixed_stays n start h m bytes more v false true x y inside fin e =
    let came : start + m ≤ length bytes = grind (arith, nat_tests, y) in
    let still : nat_le (start + m) (length (bytes ++ more)) ≡ true = grind (arith, nat_tests, came, length-append bytes more) in
    let content : take m (drop start (bytes ++ more)) ≡ take m (drop start bytes) =
    ap (λ (t : List ℕ). take m t) (drop-append-le start bytes more inside)
    ∙ take-append-le m (drop start bytes) more (omega (arith, length-drop start bytes)) in
    e ∙ fixed_by n start h m bytes false true x y ∙ ap (λ (t : List ℕ). whole (start + m) (reply_of n h t)) (sym content)
    ∙ sym (fixed_by n start h m (bytes ++ more) false true x still)
fixed_stays n start h m bytes more v false false x y inside fin e =
    absurd (not_final v headed (e ∙ fixed_by n start h m bytes false false x y) refl fin)

past_by : (v w : Verdict) (b : Bool) → is_final w ≡ false → v ≡ cond b (bad why.TooLong) w → is_final v ≡ true → b ≡ true
past_by v w true live e fin = refl
past_by v w false live e fin = absurd (not_final v w e live fin)

past_more : (limit start : ℕ) (bytes more : List ℕ) → start ≤ length bytes → nat_lt limit (length (drop start bytes)) ≡ true
    → nat_lt limit (length (drop start (bytes ++ more))) ≡ true
past_more limit start bytes more inside past =
    let long : limit < length (drop start bytes) = grind (arith, nat_tests, past) in
    let still : limit < length (drop start (bytes ++ more)) =
    omega (arith, long, ap length (drop-append-le start bytes more inside), length-append (drop start bytes) more) in
    grind (arith, nat_tests, still)

-- ---- a chunked body

over_more : (before came more : ℕ) (l : Line) → came ≤ more → is_over body_limit before came l ≡ true → is_over body_limit before more l ≡ true
over_more before came more line.Open grows e = absurd (false≢true e)
over_more before came more line.Never grows e = absurd (false≢true e)
over_more before came more (line.Whole len size) grows e =
    let past : body_limit < before + min size (came - len) = grind (arith, nat_tests, e) in
    let still : body_limit < before + min size (more - len) = omega (arith, past, grows) in
    grind (arith, nat_tests, still)

line_kept : (x z : List ℕ) (l : Line) (before : ℕ) → is_over body_limit before (length x) l ≡ true → LineIs x l → LineIs (x ++ z) l
line_kept x z line.Open before e is = absurd (false≢true e)
line_kept x z line.Never before e is = absurd (false≢true e)
line_kept x z (line.Whole len size) before e is = line_more x z len size is

-- the data of the chunk came whole, where something final stands behind its line
data_came : (x : List ℕ) (len size : ℕ) (k : Next) (b : Bool) → (size == 0) ≡ b → IsLast k
    → MatchBool b (TrailerNext len (drop len x) k) (k ≡ end_next len size (drop size (drop len x))) → size ≤ length x - len
data_came x len size k true t last m = let none : size ≡ 0 = grind (arith, nat_tests, t) in omega (arith, none)
data_came x len size k false t last m =
    omega (arith, end_inside (drop size (drop len x)) len size k last m, length-drop size (drop len x), length-drop len x)

light_more : (x z : List ℕ) (l : Line) (k : Next) (before : ℕ) → IsLast k → LineIs x l → LineNext x l k → is_over body_limit before (length x) l ≡ false
    → (LineIs (x ++ z) l × LineNext (x ++ z) l k) × (is_over body_limit before (length (x ++ z)) l ≡ false)
light_more x z line.Open k before last is m e = absurd (not_open k m last)
light_more x z line.Never k before last is m e =
    ((λ more c rest reads. is (z ++ more) c rest (subst (λ (t : List ℕ). ReadsChunkLine t c rest) (append_assoc x z more) reads), m), refl)
light_more x z (line.Whole len size) k before last is m e =
    let came = data_came x len size k (size == 0) refl last m in
    let here : min size (length x - len) ≡ size = omega (arith, came) in
    let there : min size (length (x ++ z) - len) ≡ size = omega (arith, came, length-append x z) in
    let behind = subst (λ (t : List ℕ). MatchBool (size == 0) (TrailerNext len t k) (k ≡ end_next len size (drop size t)))
    (sym (drop-append-le len x z is.4)) (next_by (drop len x) z len size k (size == 0) last m) in
    ((line_more x z len size is, behind), ap (λ (s : ℕ). nat_lt body_limit (before + s)) (there ∙ sym here) ∙ e)

module _ (n : Need) (start : ℕ) (h : ResponseHead) (bytes more : List ℕ) (v : Verdict) (inside : start ≤ length bytes) (fin : is_final v ≡ true) where
  window_more : (z : List ℕ) × (take raw_limit (drop start (bytes ++ more)) ≡ take raw_limit (drop start bytes) ++ z)
  window_more =
      let y = front_more raw_limit (drop start bytes) more in
      (y.0, ap (λ (t : List ℕ). take raw_limit t) (drop-append-le start bytes more inside) ∙ y.1)

  after_more : (q : ChunkedSays n start h bytes v) → After (take raw_limit (drop start (bytes ++ more))) q.chunks (q.rest ++ window_more.0)
  after_more q = record {
    each = q.after.each;
    split = window_more.1 ∙ ap (λ (t : List ℕ). t ++ window_more.0) q.after.split ∙ append_assoc (print_chunks q.chunks) q.rest window_more.0;
  }

  heavy_stays : (q : ChunkedSays n start h bytes v) → is_over body_limit (length (chunk_data q.chunks)) (length q.rest) q.line ≡ true → v ≡ bad why.TooLong
      → ChunkedSays n start h (bytes ++ more) v
  heavy_stays q heavy e =
      let z = window_more.0 in
      let still = over_more (length (chunk_data q.chunks)) (length q.rest) (length (q.rest ++ z)) q.line (omega (arith, length-append q.rest z)) heavy in
      record {
        chunks = q.chunks;
        rest = q.rest ++ z;
        line = q.line;
        after = after_more q;
        small = q.small;
        is = line_kept q.rest z q.line (length (chunk_data q.chunks)) heavy q.is;
        says = subst (λ (b : Bool). MatchBool b (v ≡ bad why.TooLong)
            ((k : Next) × LineNext (q.rest ++ z) q.line k × ChunksEnd n start h (bytes ++ more) q.chunks k v)) (sym still) e;
      }

  light_stays : (q : ChunkedSays n start h bytes v) (k : Next) → IsLast k → is_over body_limit (length (chunk_data q.chunks)) (length q.rest) q.line ≡ false
      → LineNext q.rest q.line k → ChunksEnd n start h (bytes ++ more) q.chunks k v → ChunkedSays n start h (bytes ++ more) v
  light_stays q k last light m ends =
      let z = window_more.0 in
      let w = light_more q.rest z q.line k (length (chunk_data q.chunks)) last q.is m light in
      record {
        chunks = q.chunks;
        rest = q.rest ++ z;
        line = q.line;
        after = after_more q;
        small = q.small;
        is = w.0.0;
        says = subst (λ (b : Bool). MatchBool b (v ≡ bad why.TooLong)
            ((j : Next) × LineNext (q.rest ++ z) q.line j × ChunksEnd n start h (bytes ++ more) q.chunks j v)) (sym w.1) (k, w.0.1, ends);
      }

  full_stays : (q : ChunkedSays n start h bytes v) → is_over body_limit (length (chunk_data q.chunks)) (length q.rest) q.line ≡ false
      → LineNext q.rest q.line next.Open → ChunksEnd n start h bytes q.chunks next.Open v → ChunkedSays n start h (bytes ++ more) v
  full_stays q light m ends =
      let past = past_by v headed (nat_lt raw_limit (length (drop start bytes))) refl ends fin in
      let long : raw_limit ≤ length (drop start bytes) = grind (arith, nat_tests, past) in
      let still = past_more raw_limit start bytes more inside past in
      let same : take raw_limit (drop start (bytes ++ more)) ≡ take raw_limit (drop start bytes) =
      ap (λ (t : List ℕ). take raw_limit t) (drop-append-le start bytes more inside) ∙ take-append-le raw_limit (drop start bytes) more long in
      record {
        chunks = q.chunks;
        rest = q.rest;
        line = q.line;
        after = subst (λ (t : List ℕ). After t q.chunks q.rest) (sym same) q.after;
        small = q.small;
        is = q.is;
        says = subst (λ (b : Bool). MatchBool b (v ≡ bad why.TooLong)
            ((j : Next) × LineNext q.rest q.line j × ChunksEnd n start h (bytes ++ more) q.chunks j v)) (sym light)
            (next.Open, m, ends ∙ ap (λ (b : Bool). cond b (bad why.TooLong) headed) (past ∙ sym still));
      }

  next_stays : (q : ChunkedSays n start h bytes v) (k : Next) → is_over body_limit (length (chunk_data q.chunks)) (length q.rest) q.line ≡ false
      → LineNext q.rest q.line k → ChunksEnd n start h bytes q.chunks k v → ChunkedSays n start h (bytes ++ more) v
  next_stays q next.Open light m ends = full_stays q light m ends
  next_stays q next.Wrong light m ends = light_stays q next.Wrong tt light m ends
  next_stays q (next.Chunk l s) light m ends = absurd ends
  next_stays q (next.Last used) light m ends = light_stays q (next.Last used) tt light m ends

  says_stays : (q : ChunkedSays n start h bytes v) (b : Bool) → is_over body_limit (length (chunk_data q.chunks)) (length q.rest) q.line ≡ b
      → MatchBool b (v ≡ bad why.TooLong) ((k : Next) × LineNext q.rest q.line k × ChunksEnd n start h bytes q.chunks k v)
      → ChunkedSays n start h (bytes ++ more) v
  says_stays q true t e = heavy_stays q t e
  says_stays q false t e = next_stays q e.0 t e.1 e.2

  body_stays : (x : Option Extent) → BodySays n start h bytes x v → BodySays n start h (bytes ++ more) x v
  body_stays None e = e
  body_stays (Some (extent.Fixed m)) e =
      fixed_stays n start h m bytes more v (nat_lt body_limit m) (nat_le (start + m) (length bytes)) refl refl inside fin e
  body_stays (Some extent.Chunked) q = says_stays q (is_over body_limit (length (chunk_data q.chunks)) (length q.rest) q.line) refl q.says
  body_stays (Some extent.Lasting) e =
      let past = past_by v (lasting (reply_of n h (drop start bytes))) (nat_lt body_limit (length (drop start bytes))) refl e fin in
      let still = past_more body_limit start bytes more inside past in
      e ∙ ap (λ (b : Bool). cond b (bad why.TooLong) (lasting (reply_of n h (drop start bytes)))) past
      ∙ sym (ap (λ (b : Bool). cond b (bad why.TooLong) (lasting (reply_of n h (drop start (bytes ++ more))))) still)

-- ---- the message

final_stays : (n : Need) (start : ℕ) (h : ResponseHead) (bytes more : List ℕ) (v : Verdict) → start ≤ length bytes → is_final v ≡ true
    → FinalSays n start h bytes v → FinalSays n start h (bytes ++ more) v
final_stays need.Status start h bytes more v inside fin e = e
final_stays need.Short start h bytes more v inside fin e =
    body_stays need.Short start h bytes more v inside fin (response_extent (status_code h) (fields_of h.fields)) e
final_stays need.Full start h bytes more v inside fin e =
    body_stays need.Full start h bytes more v inside fin (response_extent (status_code h) (fields_of h.fields)) e

module _ (n : Need) (bytes more : List ℕ) (v : Verdict) (fin : is_final v ≡ true) (q : IsResponse n bytes v) where
  -- the same heads, with what came behind them
  moved : (k : Front) → IsFront (q.rest ++ (front_more 16384 bytes more).0) k → FrontSays n (length (print_heads q.interims)) (bytes ++ more) k v
      → IsResponse n (bytes ++ more) v
  moved k is says =
      let y = front_more 16384 bytes more in
      record {
        interims = q.interims;
        rest = q.rest ++ y.0;
        front = k;
        behind = subst (λ (t : List ℕ). Behind t q.interims (q.rest ++ y.0)) (sym y.1) (behind_more (take 16384 bytes) y.0 q.interims q.rest q.behind);
        is = is;
        says = says;
      }

  front_stays : (k : Front) → IsFront q.rest k → FrontSays n (length (print_heads q.interims)) bytes k v → IsResponse n (bytes ++ more) v
  front_stays partial is e =
      let past = past_by v unfinished (nat_lt 16384 (length bytes)) refl e fin in
      let long : 16384 ≤ length bytes = grind (arith, nat_tests, past) in
      let still : nat_lt 16384 (length (bytes ++ more)) ≡ true = grind (arith, nat_tests, past, length-append bytes more) in
      record {
        interims = q.interims;
        rest = q.rest;
        front = partial;
        behind = subst (λ (t : List ℕ). Behind t q.interims q.rest) (sym (take-append-le 16384 bytes more long)) q.behind;
        is = is;
        says = e ∙ ap (λ (b : Bool). cond b (bad why.TooLong) unfinished) (past ∙ sym still);
      }
  front_stays wrong is e = moved wrong (wrong_more q.rest (front_more 16384 bytes more).0 is) e
  front_stays (final h) is says =
      let z = (front_more 16384 bytes more).0 in
      let inside : length (print_heads q.interims) + length (print_response h) ≤ length bytes =
      omega (
        arith,
        ap length q.behind.split,
        length-append (print_heads q.interims) q.rest,
        ap length is.1.1,
        length-append (print_response h) is.0,
        length-take 16384 bytes,
      ) in
      moved (final h) (is.0 ++ z, reads_more q.rest z h is.0 is.1, is.2)
      (final_stays n (length (print_heads q.interims) + length (print_response h)) h bytes more v inside fin says)

pub reply_stays : (n : Need) (bytes more : List ℕ) (v : Verdict) → is_final v ≡ true → IsResponse n bytes v → IsResponse n (bytes ++ more) v
reply_stays n bytes more v fin q = front_stays n bytes more v fin q q.front q.is q.says
