-- What a piece of a chunked body of a request comes to.
use Rattle.std.proofs.Common.{◌≡◌, ℕ, ◌+◌, ◌-◌, ◌<◌, ◌≤◌, Bool, true, false, cond, List, [], ◌++◌, length, take, drop, refl, sym, ap, ◌∙◌, subst, arith, length-append, length-drop, length-take}
use Rattle.std.specs.Prelude.{nat_lt}
use Rattle.std.proofs.lemmas.Bool.{false≢true}
use Rattle.std.proofs.lemmas.Bool.Decides.{nat_tests}
use Rattle.std.proofs.lemmas.List.{take-take, take_all, take-append-le, drop-append-le, drop-take}
use Rattle.ws_http.specs.declared.fed.BadWhy.TheVariants as why
use Rattle.ws_http.specs.declared.head.Framing.TheVariants as framing
use Rattle.ws_http.specs.declared.head.Judged.TheVariants as judged
use Rattle.ws_http.specs.declared.chunk.Line.{Line}
use Rattle.ws_http.specs.declared.chunk.Next.{Next}
use Rattle.ws_http.specs.declared.chunk.Next.TheVariants as next
use Rattle.ws_http.specs.declared.flow.DataEnd.TheVariants as end
use Rattle.ws_http.specs.declared.flow.Point.{Point}
use Rattle.ws_http.specs.declared.stage.Stage.TheVariants as stage
use Rattle.ws_http.specs.Chunks.{After, LineNext, print_chunks}
use Rattle.ws_http.specs.Flow.{Flows, begin}
use Rattle.ws_http.specs.FlowEnds.{StopsAt, IsDataEnd}
use Rattle.ws_http.specs.Requests.{Verdict, headed, whole, bad, Ends, IsRequest}
use Rattle.ws_http.specs.RequestStages.{HasHead, Chunking, Ready, Stands, SharesHead, quota_for}
use Rattle.ws_http.proofs.ReaderLemmas.{head_more, same_head, shares_front, take_over}
use Rattle.ws_http.proofs.ReplyLemmas.{follows_by}
use Rattle.ws_http.proofs.FlowLemmas.{flow_begins, flow_held, open_stops, within_limit, cleared}

pub head_in : (came : List ℕ) (head : ℕ) → HasHead came head framing.Chunked → (head ≤ 16384) × (head ≤ length came)
head_in came head j = (omega (arith, j.3, length-take 16384 came), omega (arith, j.3, length-take 16384 came))

-- ---- a piece of the body

module _ (room : ℕ) (raw0 body0 : List ℕ) (head : ℕ) (p : Point) (came piece : List ℕ) (k : Chunking room raw0 body0 head p came)
    (raw body : List ℕ) (heads : take head raw ≡ take head raw0) (inside : head ≤ length raw)
    (part : List ℕ) (part_is : part ≡ take (room - head - p.count) piece) where
  start_in : head ≤ length came
  start_in = (head_in came head k.is).1

  head_all : HasHead (came ++ piece) head framing.Chunked
  head_all = head_more came piece head framing.Chunked k.is

  behind_all : drop head (came ++ piece) ≡ drop head came ++ piece
  behind_all = drop-append-le head came piece start_in

  -- what is read on is what stands behind the head within the room
  same : drop head came ++ part ≡ drop head (take room (came ++ piece))
  same =
      let all = came ++ piece in
      let sum : head + (room - head) ≡ room = omega (arith, k.limit) in
      let left : room - head - length (drop head came) ≡ room - head - p.count = omega (arith, k.flows.count) in
      let few : length (drop head came) ≤ room - head = omega (arith, k.flows.count, k.limit) in
      ap (λ (t : List ℕ). drop head came ++ t) part_is
      ∙ sym (ap (λ (j : ℕ). drop head (take j all)) (sym sum) ∙ drop-take head (room - head) all ∙ ap (λ (t : List ℕ). take (room - head) t) behind_all
      ∙ take_over (room - head) (drop head came) piece few ∙ ap (λ (j : ℕ). drop head came ++ take j piece) left)

  heads_all : take head raw ≡ take head (came ++ piece)
  heads_all = heads ∙ k.heads ∙ sym (take-append-le head came piece start_in)

  shares : SharesHead raw (came ++ piece)
  shares = shares_front raw (came ++ piece) head framing.Chunked heads_all head_all

  head_raw : HasHead raw head framing.Chunked
  head_raw = same_head raw (came ++ piece) head framing.Chunked heads_all head_all

  -- a verdict by what stands behind the whole chunks
  is_by : (v : Verdict) (kept : List ℕ) (place size : ℕ) (over : Bool) (l : Line) (s : StopsAt (quota_for room) (drop head came ++ part) kept place size over l)
      (n : Next) → LineNext (drop place (drop head came ++ part)) l n → Ends room head (came ++ piece) s.read.read.chunks n v → IsRequest room (came ++ piece) v
  is_by v kept place size over l s n follows ends =
      let rest = drop place (drop head came ++ part) in
      record {
        front = judged.Head head framing.Chunked;
        judges = head_all;
        says = record {
          chunks = s.read.read.chunks;
          rest = rest;
          next = n;
          after = subst (λ (t : List ℕ). After t s.read.read.chunks rest) same s.read.read.after;
          follows = follows_by rest l n s.is follows;
          ends = ends;
        };
      }

  part_short : length (drop head came ++ part) ≤ room
  part_short = omega (arith, ap length same, length-drop head (take room (came ++ piece)), length-take room (came ++ piece))

  pub never_over : IsDataEnd (quota_for room) (drop head came ++ part) (drop head raw) body end.Over → ⊥
  never_over d = within_limit (quota_for room) (drop head came ++ part) (drop head raw) body part_short d

  pub wrong_stands : IsDataEnd (quota_for room) (drop head came ++ part) (drop head raw) body end.Wrong
      → Stands (record { room = room; bytes = raw; content = body; stage = stage.Bad why.Chunk true }) (came ++ piece)
  wrong_stands d = record {
    judged = is_by (bad why.Chunk true) d.0 d.1 d.2 false d.3 d.4 next.Wrong d.5 refl;
    kept = tt;
    head = λ _. shares;
  }

  pub bad_ready : Ready room raw body (stage.Bad why.Chunk true)
  bad_ready = (head, framing.Chunked, head_raw)

  pub past_stands : (e : Point) → IsDataEnd (quota_for room) (drop head came ++ part) (drop head raw) body (end.Open e) → length part < length piece
      → Stands (record { room = room; bytes = raw; content = body; stage = stage.Bad why.TooLong true }) (came ++ piece)
  past_stands e ends less =
      let d = open_stops (quota_for room) (drop head came ++ part) (drop head raw) body e ends in
      let long : room < length (came ++ piece) =
      omega (arith, less, ap length part_is, length-take (room - head - p.count) piece, length-append came piece, length-drop head came, start_in, k.flows.count, k.limit) in
      let past : nat_lt room (length (came ++ piece)) ≡ true = grind (arith, nat_tests, long) in
      record {
        judged = is_by (bad why.TooLong true) d.0 d.1 d.2 false d.3 d.4 next.Open d.5 (sym (ap (λ (b : Bool). cond b (bad why.TooLong true) headed) past));
        kept = tt;
        head = λ _. shares;
      }

  pub past_ready : Ready room raw body (stage.Bad why.TooLong true)
  past_ready = (head, framing.Chunked, head_raw)

  module _ (e : Point) (ends : IsDataEnd (quota_for room) (drop head came ++ part) (drop head raw) body (end.Open e)) (fits : length piece ≤ length part) where
    few : length piece ≤ room - head - p.count
    few = omega (arith, fits, ap length part_is, length-take (room - head - p.count) piece)

    whole_part : part ≡ piece
    whole_part = part_is ∙ take_all (room - head - p.count) piece few

    pub still_chunking : Chunking room raw body head e (came ++ piece)
    still_chunking = record {
      is = head_all;
      heads = heads_all;
      inside = inside;
      flows = subst (λ (t : List ℕ). Flows (quota_for room) t (drop head raw) body e)
          (ap (λ (t : List ℕ). drop head came ++ t) whole_part ∙ sym behind_all) ends.0;
      limit = omega (arith, ends.0.count, length-append (drop head came) part, ap length whole_part, k.flows.count, few, k.limit);
    }

    pub open_stands : Stands (record { room = room; bytes = raw; content = body; stage = stage.Chunked head e }) (came ++ piece)
    open_stands =
        let d = open_stops (quota_for room) (drop head came ++ part) (drop head raw) body e ends in
        let short : length (came ++ piece) ≤ room =
        omega (arith, length-append came piece, few, k.flows.count, k.limit, length-drop head came, start_in) in
        let within : nat_lt room (length (came ++ piece)) ≡ false = grind (arith, nat_tests, short) in
        record {
          judged = is_by headed d.0 d.1 d.2 false d.3 d.4 next.Open d.5 (sym (ap (λ (b : Bool). cond b (bad why.TooLong true) headed) within));
          kept = still_chunking;
          head = λ _. shares;
        }

  module _ (total : ℕ) (d : IsDataEnd (quota_for room) (drop head came ++ part) (drop head raw) body (end.Last total)) where
    pub last_stands : Stands (record { room = room; bytes = raw; content = body; stage = stage.Whole head (head + total) true }) (came ++ piece)
    last_stands =
        let s = d.4 in
        let chunks = s.read.read.chunks in
        let sum : head + total ≡ head + length (print_chunks chunks) + d.2 = omega (arith, s.read.read.place, d.6) in
        let content = s.read.kept ∙ s.read.read.content in
        record {
          judged = is_by (whole (head + total) body) body d.0 d.1 false d.3 s (next.Last d.2) d.5 (λ i. whole (sum i) (content i));
          kept = tt;
          head = λ _. shares;
        }

    pub last_ready : Ready room raw body (stage.Whole head (head + total) true)
    last_ready = (framing.Chunked, head_raw, omega arith, λ no. absurd (false≢true (sym no)))

    pub last_small : head + total ≤ head + length (drop head came ++ part)
    last_small = omega (arith, d.7)

-- what is kept of a chunked body and its head has room
pub chunking_short : (room : ℕ) (raw body : List ℕ) (head : ℕ) (p : Point) (came : List ℕ) → Chunking room raw body head p came
    → length raw + (room - head - p.count) ≤ room
chunking_short room raw body head p came k =
    omega (arith, flow_held (quota_for room) (drop head came) (drop head raw) body p k.flows, length-drop head raw, k.inside, k.limit)

-- ---- where a chunked body begins

pub chunking_begins : (room : ℕ) (raw : List ℕ) (head : ℕ) → 16384 ≤ room → HasHead raw head framing.Chunked
    → Chunking room (take head raw) [] head begin (take head raw)
chunking_begins room raw head least j =
    let near = (head_in raw head j).0 in
    let fits : head ≤ length (take head raw) = omega (arith, (head_in raw head j).1, length-take head raw) in
    let none = sym (cleared head raw) in
    record {
      is = same_head (take head raw) raw head framing.Chunked (take-take head head raw (omega arith)) j;
      heads = refl;
      inside = fits;
      flows = subst (λ (t : List ℕ). Flows (quota_for room) t t [] begin) none (flow_begins (quota_for room));
      limit = omega (arith, near, least);
    }
