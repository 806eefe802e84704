-- What a stage of reading stands for, whatever came behind the bytes that are kept.
use Rattle.std.proofs.Common.{◌≡◌, ℕ, ◌+◌, ◌-◌, ◌<◌, ◌≤◌, Bool, true, false, cond, List, [], ◌∷◌, ◌++◌, length, take, drop, refl, sym, ap, ◌∙◌, subst, arith, length-append, length-drop, length-take, drop-drop}
use Rattle.std.specs.Prelude.{nat_lt, nat_le, min, ◌||◌}
use Rattle.std.proofs.lemmas.Bool.{false≢true}
use Rattle.std.proofs.lemmas.Bool.Decides.{nat_tests}
use Rattle.std.proofs.lemmas.List.{take-take, drop-take}
use Rattle.ws_http.specs.declared.fed.BadWhy.TheVariants as why
use Rattle.ws_http.specs.declared.head.Framing.TheVariants as framing
use Rattle.ws_http.specs.declared.head.Judged.{Judged}
use Rattle.ws_http.specs.declared.head.Judged.TheVariants as judged
use Rattle.ws_http.specs.declared.chunk.Next.TheVariants as next
use Rattle.ws_http.specs.Heads.{Judges}
use Rattle.ws_http.specs.Chunks.{HasChunks, After, Follows, chunk_data, print_chunks, print_chunk}
use Rattle.ws_http.specs.Requests.{Verdict, headed, whole, bad, unfinished, fixed_verdict, IsRequest, HeadVerdict}
use Rattle.ws_http.specs.RequestStages.{HasHead}
use Rattle.ws_http.proofs.ChunkLemmas.{chunk_found, chunk_reads, after_more, print_more, data_more}

-- the front of what is kept is that of all
pub front_same : (room : ℕ) (raw bytes : List ℕ) → 16384 ≤ room → take room bytes ≡ raw → take 16384 raw ≡ take 16384 bytes
front_same room raw bytes least e = sym (ap (λ (t : List ℕ). take 16384 t) e) ∙ take-take 16384 room bytes least

-- a verdict by the front of what is kept
pub by_front : (room : ℕ) (raw bytes : List ℕ) (j : Judged) (v : Verdict) → 16384 ≤ room → take room bytes ≡ raw
    → Judges (take 16384 raw) j → HeadVerdict room bytes j v → IsRequest room bytes v
by_front room raw bytes j v least e is says = record {
  front = j;
  judges = subst (λ (t : List ℕ). Judges t j) (front_same room raw bytes least e) is;
  says = says;
}

-- one chunk more
pub chunks_go_on : (head at line size : ℕ) (raw body : List ℕ) → HasChunks raw body head at
    → Follows (drop at raw) (next.Chunk line size)
    → HasChunks raw (body ++ take size (drop line (drop at raw))) head (at + (line + size + 2))
chunks_go_on head at line size raw body k f =
    let r = chunk_reads (drop at raw) line size (chunk_found (drop at raw) line size f) in
    let behind = drop-drop (line + size + 2) at raw in
    let len = ap length r.split in
    let parts = length-append (print_chunk r.chunk) (drop (line + size + 2) (drop at raw)) in
    record {
      chunks = k.chunks ++ r.chunk ∷ [];
      after = subst (λ (t : List ℕ). After (drop head raw) (k.chunks ++ r.chunk ∷ []) t) behind
          (after_more (drop head raw) k.chunks r.chunk (drop at raw) (drop (line + size + 2) (drop at raw)) k.after r.is r.split);
      place = omega (arith, k.place, ap length (print_more k.chunks r.chunk), length-append (print_chunks k.chunks) (print_chunk r.chunk), r.length);
      content = ap (λ (t : List ℕ). t ++ take size (drop line (drop at raw))) k.content
          ∙ ap (λ (t : List ℕ). chunk_data k.chunks ++ t) (sym r.content) ∙ sym (data_more k.chunks r.chunk);
      inside = omega (arith, k.inside, len, parts, r.length, length-drop at raw);
      small = omega (arith, k.small, length-append body (take size (drop line (drop at raw))), length-take size (drop line (drop at raw)));
    }

-- ---- the head

-- no chunk was read yet
pub chunks_begin : (raw body : List ℕ) (head : ℕ) → body ≡ [] → head ≤ length raw → HasChunks raw body head head
chunks_begin raw body head empty inside = record {
  chunks = [];
  after = record { each = tt; split = refl };
  place = omega arith;
  content = empty;
  inside = inside;
  small = omega (arith, ap length empty);
}

pub or_true : (b : Bool) → b || true ≡ true
or_true true = refl
or_true false = refl

pub or_false : (b : Bool) → b || false ≡ b
or_false true = refl
or_false false = refl

pub either_not : (a b : Bool) → (a || b) ≡ false → a ≡ false
either_not true b e = absurd (false≢true (sym e))
either_not false b e = refl

passed_by : (room came kept : ℕ) (b : Bool) → nat_lt room came ≡ b → 16384 ≤ room → kept ≡ min room came
    → nat_lt 16384 came ≡ (nat_lt 16384 kept || b)
passed_by room came kept true t least e =
    let past : nat_lt 16384 came ≡ true = grind (arith, nat_tests, t) in
    past ∙ sym (or_true (nat_lt 16384 kept))
passed_by room came kept false t least e =
    let all : came ≡ kept = grind (arith, nat_tests, t) in
    ap (λ (k : ℕ). nat_lt 16384 k) all ∙ sym (or_false (nat_lt 16384 kept))

-- what came passes a head's bytes exactly where what is kept does, or where there was no room for it
pub passed : (room : ℕ) (raw bytes : List ℕ) (over : Bool) → 16384 ≤ room → take room bytes ≡ raw
    → nat_lt room (length bytes) ≡ over → nat_lt 16384 (length bytes) ≡ (nat_lt 16384 (length raw) || over)
passed room raw bytes over least e t =
    passed_by room (length bytes) (length raw) over t least (sym (ap length e) ∙ length-take room bytes)

pub head_open : (room : ℕ) (raw bytes : List ℕ) (over b : Bool) → 16384 ≤ room → take room bytes ≡ raw
    → nat_lt room (length bytes) ≡ over → (nat_lt 16384 (length raw) || over) ≡ b
    → Judges (take 16384 raw) judged.Open → IsRequest room bytes (cond b (bad why.TooLong false) unfinished)
head_open room raw bytes over b least e t past is =
    by_front room raw bytes judged.Open (cond b (bad why.TooLong false) unfinished) least e is
    (sym (ap (λ (x : Bool). cond x (bad why.TooLong false) unfinished) (passed room raw bytes over least e t ∙ past)))

-- ---- a declared length

pub content_same : (room head n : ℕ) (raw bytes : List ℕ) → take room bytes ≡ raw → head + n ≤ room
    → take n (drop head raw) ≡ take n (drop head bytes)
content_same room head n raw bytes e fits =
    let sum : head + (room - head) ≡ room = omega arith in
    ap (λ (t : List ℕ). take n (drop head t)) (sym e ∙ ap (λ (k : ℕ). take k bytes) (sym sum))
    ∙ ap (λ (t : List ℕ). take n t) (drop-take head (room - head) bytes)
    ∙ take-take n (room - head) (drop head bytes) (omega arith)

pub fixed_by : (room head n : ℕ) (bytes : List ℕ) (a b : Bool) → nat_lt room (head + n) ≡ a → nat_le (head + n) (length bytes) ≡ b
    → fixed_verdict room head n bytes ≡ cond a (bad why.TooLong false) (cond b (whole (head + n) (take n (drop head bytes))) headed)
fixed_by room head n bytes a b x y =
    λ i. cond (x i) (bad why.TooLong false) (cond (y i) (whole (head + n) (take n (drop head bytes))) headed)

module _ (room head n total : ℕ) (raw : List ℕ) (least : 16384 ≤ room) (is : HasHead raw head (framing.Fixed n))
    (bytes : List ℕ) (e : take room bytes ≡ raw) where
  pub fixed_whole : total ≡ head + n → total ≤ room → total ≤ length raw
      → IsRequest room bytes (whole total (take (total - head) (drop head raw)))
  fixed_whole sum fits inside =
      let kept = sym (ap length e) ∙ length-take room bytes in
      let a : nat_lt room (head + n) ≡ false = grind (arith, nat_tests) in
      let came : head + n ≤ length bytes = omega (arith, kept) in
      let b : nat_le (head + n) (length bytes) ≡ true = grind (arith, nat_tests) in
      let left : total - head ≡ n = omega arith in
      let content = ap (λ (k : ℕ). take k (drop head raw)) left ∙ content_same room head n raw bytes e (omega arith) in
      by_front room raw bytes (judged.Head head (framing.Fixed n)) _ least e is
      ((λ i. whole (sum i) (content i)) ∙ sym (fixed_by room head n bytes false true a b))

  pub fixed_open : total ≡ head + n → total ≤ room → length raw < total → IsRequest room bytes headed
  fixed_open sum fits short =
      let kept = sym (ap length e) ∙ length-take room bytes in
      let a : nat_lt room (head + n) ≡ false = grind (arith, nat_tests) in
      let less : length bytes < head + n = omega (arith, kept) in
      let b : nat_le (head + n) (length bytes) ≡ false = grind (arith, nat_tests) in
      by_front room raw bytes (judged.Head head (framing.Fixed n)) headed least e is (sym (fixed_by room head n bytes false false a b))

  pub fixed_long : room < head + n → IsRequest room bytes (bad why.TooLong false)
  fixed_long long =
      let a : nat_lt room (head + n) ≡ true = grind (arith, nat_tests) in
      by_front room raw bytes (judged.Head head (framing.Fixed n)) (bad why.TooLong false) least e is
      (sym (fixed_by room head n bytes true (nat_le (head + n) (length bytes)) a refl))
