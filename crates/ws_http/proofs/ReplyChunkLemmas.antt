-- What a piece of a chunked body of a response comes to.
use Rattle.std.proofs.Common.{◌≡◌, ℕ, ◌+◌, ◌-◌, ◌<◌, ◌≤◌, Bool, true, false, cond, List, [], ◌++◌, length, take, drop, refl, sym, ap, ◌∙◌, subst, arith, length-append, length-drop, length-take, take-append-drop, Some}
use Rattle.std.specs.Prelude.{nat_lt}
use Rattle.std.proofs.lemmas.Bool.Decides.{nat_tests}
use Rattle.std.proofs.lemmas.List.{take_all, take-append-le, drop-append-le}
use Rattle.std.proofs.Math.Seq.{take-append_seam}
use Rattle.httparse.specs.Grammar.{ResponseHead, print_response}
use Rattle.ws_model.specs.Legal.{body_limit}
use Rattle.ws_http.specs.declared.fed.BadWhy.TheVariants as why
use Rattle.ws_http.specs.declared.fed.Need.{Need}
use Rattle.ws_http.specs.declared.extent.Extent.TheVariants as extent
use Rattle.ws_http.specs.declared.chunk.Next.TheVariants as next
use Rattle.ws_http.specs.declared.flow.DataEnd.TheVariants as end
use Rattle.ws_http.specs.declared.flow.Point.{Point}
use Rattle.ws_http.specs.declared.reply_head.FinalHead.{FinalHead}
use Rattle.ws_http.specs.declared.reply_stage.ReplyStage.TheVariants as stage
use Rattle.ws_http.specs.Chunks.{print_chunks}
use Rattle.ws_http.specs.Flow.{Flows, begin}
use Rattle.ws_http.specs.ResponseFields.{kept_of, reply_of}
use Rattle.ws_http.specs.Responses.{headed, whole, bad, raw_limit, print_heads}
use Rattle.ws_http.specs.ResponseStages.{Ready, Chunking, Stands, HasInterims, HasFinal, HeadWithin, Unled, extent_by, front, quota_of, room_of, is_status}
use Rattle.ws_http.specs.FlowEnds.{IsDataEnd}
use Rattle.ws_http.proofs.ReaderLemmas.{front_more, take_over}
use Rattle.ws_http.proofs.ReplyLemmas.{kept_twice, kept_short}
use Rattle.ws_http.proofs.ReplyStageLemmas.{start_small, chunked_is, reply_kept, room_big}
use Rattle.ws_http.proofs.ReplyReaderLemmas.{front_final}
use Rattle.ws_http.proofs.ReplyTailLemmas.{head_alone}
use Rattle.ws_http.proofs.FlowLemmas.{flow_begins, flow_held, open_stops, cleared}

-- ---- the heads alone

interims_less : (x z : List ℕ) (at : ℕ) → HasInterims (x ++ z) at → at ≤ length x → HasInterims x at
interims_less x z at h inside =
    let p = print_heads h.interims in
    let same : take at x ≡ p =
    sym (take-append-le at x z inside) ∙ (λ i. take (h.place i) (h.behind.split i)) ∙ take-append_seam p (drop at (x ++ z)) in
    record {
      interims = h.interims;
      behind = record {
        each = h.behind.each;
        split = sym (take-append-drop at x) ∙ ap (λ (t : List ℕ). t ++ drop at x) same;
      };
      place = h.place;
      inside = inside;
    }

heads_alone : (raw tail : List ℕ) (f : FinalHead) (h : ResponseHead) → HasFinal (front (raw ++ tail)) f h → f.start ≤ length raw
    → HasFinal (front raw) f h
heads_alone raw tail f h w inside =
    let y = front_more 16384 raw tail in
    let near = (start_small (raw ++ tail) f h w).0 in
    let fits : f.start ≤ length (front raw) = omega (arith, inside, near, length-take 16384 raw) in
    let a = head_alone raw tail f h w inside in
    record {
      before = interims_less (front raw) y.0 f.at (subst (λ (t : List ℕ). HasInterims t f.at) y.1 w.before) (omega (arith, fits, w.place));
      rest = a.0;
      reads = a.1;
      code = w.code;
      place = w.place;
      inside = fits;
    }

-- the final head stands in all bytes that have the same heads
same_heads : (x y : List ℕ) (f : FinalHead) (h : ResponseHead) → take f.start x ≡ take f.start y → HasFinal (front y) f h → HasFinal (front x) f h
same_heads x y f h same w =
    let s = f.start in
    let inside : s ≤ length (take s y) = omega (arith, (start_small y f h w).1, length-take s y) in
    let all = subst (λ (t : List ℕ). HasFinal (front t) f h) (sym (take-append-drop s y)) w in
    let heads = subst (λ (t : List ℕ). HasFinal (front t) f h) (sym same) (heads_alone (take s y) (drop s y) f h all inside) in
    subst (λ (t : List ℕ). HasFinal (front t) f h) (take-append-drop s x) (front_final (take s x) (drop s x) f h heads)

-- ---- a piece of the body

module _ (n : Need) (raw0 body0 : List ℕ) (f : FinalHead) (p : Point) (came piece : List ℕ) (k : Chunking n raw0 body0 f p came)
    (raw body : List ℕ) (heads : take f.start raw ≡ take f.start raw0) (inside : f.start ≤ length raw)
    (part : List ℕ) (part_is : part ≡ take (raw_limit - p.count) piece) where
  abbrev all : List ℕ
  all = came ++ piece

  abbrev w : List ℕ
  w = drop f.start came ++ part

  start_in : f.start ≤ length came
  start_in = (start_small came f k.head k.final).1

  final_all : HasFinal (front (came ++ piece)) f k.head
  final_all = front_final came piece f k.head k.final

  behind_all : drop f.start (came ++ piece) ≡ drop f.start came ++ piece
  behind_all = drop-append-le f.start came piece start_in

  same : drop f.start came ++ part ≡ take raw_limit (drop f.start (came ++ piece))
  same =
      ap (λ (t : List ℕ). drop f.start came ++ t) part_is
      ∙ sym (ap (λ (t : List ℕ). take raw_limit t) behind_all ∙ take_over raw_limit (drop f.start came) piece (omega (arith, k.flows.count, k.limit))
      ∙ ap (λ (j : ℕ). drop f.start came ++ take (raw_limit - j) piece) (sym k.flows.count))

  heads_all : take f.start raw ≡ take f.start (came ++ piece)
  heads_all = heads ∙ k.heads ∙ sym (take-append-le f.start came piece start_in)

  pub final_raw : HasFinal (front raw) f k.head
  final_raw = same_heads raw (came ++ piece) f k.head heads_all final_all

  pub over_stands : IsDataEnd (quota_of n) (drop f.start came ++ part) (drop f.start raw) body end.Over
      → Stands (record { need = n; bytes = raw; content = body; stage = stage.Bad why.TooLong }) (came ++ piece) false
  over_stands d = record {
    verdict = bad why.TooLong;
    is = chunked_is n (came ++ piece) f k.head k.asks final_all k.extent d.0 (drop f.start came ++ part) same (bad why.TooLong) d.1 d.2 true d.3 d.4 refl;
    says = refl;
    kept = tt;
  }

  pub wrong_stands : IsDataEnd (quota_of n) (drop f.start came ++ part) (drop f.start raw) body end.Wrong
      → Stands (record { need = n; bytes = raw; content = body; stage = stage.Bad why.Chunk }) (came ++ piece) false
  wrong_stands d = record {
    verdict = bad why.Chunk;
    is = chunked_is n (came ++ piece) f k.head k.asks final_all k.extent d.0 (drop f.start came ++ part) same (bad why.Chunk) d.1 d.2 false d.3 d.4
        (next.Wrong, d.5, refl);
    says = refl;
    kept = tt;
  }

  pub past_stands : (q : Point) → IsDataEnd (quota_of n) (drop f.start came ++ part) (drop f.start raw) body (end.Open q) → length part < length piece
      → Stands (record { need = n; bytes = raw; content = body; stage = stage.Bad why.TooLong }) (came ++ piece) false
  past_stands q e less =
      let d = open_stops (quota_of n) (drop f.start came ++ part) (drop f.start raw) body q e in
      let long : raw_limit < length (drop f.start (came ++ piece)) =
      omega (arith, less, ap length part_is, length-take (raw_limit - p.count) piece, ap length behind_all, length-append (drop f.start came) piece, k.flows.count, k.limit) in
      let past : nat_lt raw_limit (length (drop f.start (came ++ piece))) ≡ true = grind (arith, nat_tests, long) in
      record {
        verdict = bad why.TooLong;
        is = chunked_is n (came ++ piece) f k.head k.asks final_all k.extent d.0 (drop f.start came ++ part) same (bad why.TooLong) d.1 d.2 false d.3 d.4
            (next.Open, d.5, sym (ap (λ (b : Bool). cond b (bad why.TooLong) headed) past));
        says = refl;
        kept = tt;
      }

  module _ (q : Point) (e : IsDataEnd (quota_of n) (drop f.start came ++ part) (drop f.start raw) body (end.Open q)) (fits : length piece ≤ length part) where
    whole_part : part ≡ piece
    whole_part =
        part_is ∙ take_all (raw_limit - p.count) piece (omega (arith, fits, ap length part_is, length-take (raw_limit - p.count) piece))

    pub still_chunking : Chunking n raw body f q (came ++ piece)
    still_chunking = record {
      head = k.head;
      final = final_all;
      extent = k.extent;
      asks = k.asks;
      heads = heads_all;
      inside = inside;
      flows = subst (λ (t : List ℕ). Flows (quota_of n) t (drop f.start raw) body q)
          (ap (λ (t : List ℕ). drop f.start came ++ t) whole_part ∙ sym behind_all) e.0;
      limit = omega (arith, e.0.count, ap length same, length-take raw_limit (drop f.start (came ++ piece)));
    }

    pub open_stands : Stands (record { need = n; bytes = raw; content = body; stage = stage.Chunked f q }) (came ++ piece) false
    open_stands =
        let d = open_stops (quota_of n) (drop f.start came ++ part) (drop f.start raw) body q e in
        let short : length (drop f.start (came ++ piece)) ≤ raw_limit =
        omega (
          arith,
          ap length same,
          length-take raw_limit (drop f.start (came ++ piece)),
          ap length behind_all,
          ap length whole_part,
          length-append (drop f.start came) piece,
          length-append (drop f.start came) part,
        ) in
        let within : nat_lt raw_limit (length (drop f.start (came ++ piece))) ≡ false = grind (arith, nat_tests, short) in
        record {
          verdict = headed;
          is = chunked_is n (came ++ piece) f k.head k.asks final_all k.extent d.0 (drop f.start came ++ part) same headed d.1 d.2 false d.3 d.4
              (next.Open, d.5, sym (ap (λ (b : Bool). cond b (bad why.TooLong) headed) within));
          says = refl;
          kept = still_chunking;
        }

  module _ (total : ℕ) (d : IsDataEnd (quota_of n) (drop f.start came ++ part) (drop f.start raw) body (end.Last total)) where
    pub last_stands : Stands (record { need = n; bytes = raw; content = body; stage = stage.Whole f (f.start + total) true }) (came ++ piece) false
    last_stands =
        let s = d.4 in
        let chunks = s.read.read.chunks in
        let sum : f.start + total ≡ f.start + length (print_chunks chunks) + d.2 = omega (arith, s.read.read.place, d.6) in
        let content = ap (λ (t : List ℕ). reply_of n k.head t) s.read.kept ∙ reply_kept n k.head s.read.content
        ∙ ap (λ (t : List ℕ). reply_of n k.head t) s.read.read.content in
        let v = whole (f.start + total) (reply_of n k.head body) in
        record {
          verdict = v;
          is = chunked_is n (came ++ piece) f k.head k.asks final_all k.extent body (drop f.start came ++ part) same v d.0 d.1 false d.3 s
              (next.Last d.2, d.5, λ i. whole (sum i) (content i));
          says = (k.head, final_raw, refl);
          kept = tt;
        }

    pub last_ready : Ready n raw body (stage.Whole f (f.start + total) true)
    last_ready =
        let r = d.4.read in
        (k.head, final_raw, omega arith, λ no. absurd (cc), λ _. ap (λ (t : List ℕ). kept_of n t) r.kept ∙ kept_twice n r.content ∙ sym r.kept)

    pub last_small : length body ≤ body_limit
    last_small = let r = d.4.read in omega (arith, ap length r.kept, kept_short n r.content, r.small)

-- what is kept of a chunked body and its heads has room
pub chunking_short : (n : Need) (raw body : List ℕ) (f : FinalHead) (p : Point) (came : List ℕ) → Chunking n raw body f p came
    → length raw + (raw_limit - p.count) ≤ room_of n
chunking_short n raw body f p came k =
    omega (
      arith,
      flow_held (quota_of n) (drop f.start came) (drop f.start raw) body p k.flows,
      length-drop f.start raw,
      k.inside,
      k.limit,
      (start_small came f k.head k.final).0,
      room_big n k.asks,
    )

-- ---- where a chunked body begins

pub chunking_begins : (n : Need) (raw : List ℕ) (f : FinalHead) (h : ResponseHead) → HasFinal (front raw) f h → extent_by h ≡ Some extent.Chunked
    → is_status n ≡ false → Chunking n (take f.start raw) [] f begin (take f.start raw)
chunking_begins n raw f h x ex asks =
    let s = f.start in
    let fits : s ≤ length (take s raw) = omega (arith, (start_small raw f h x).1, length-take s raw) in
    let none = sym (cleared s raw) in
    record {
      head = h;
      final = heads_alone (take s raw) (drop s raw) f h (subst (λ (t : List ℕ). HasFinal (front t) f h) (sym (take-append-drop s raw)) x) fits;
      extent = ex;
      asks = asks;
      heads = refl;
      inside = fits;
      flows = subst (λ (t : List ℕ). Flows (quota_of n) t t [] begin) none (flow_begins (quota_of n));
      limit = omega arith;
    }

-- where no head was whole before, one that ends now ends in the new bytes
reach_by : (b : Bool) (raw more : List ℕ) (at end : ℕ) → nat_lt end (length raw) ≡ b → at ≤ length raw → Unled raw at → HeadWithin (front (raw ++ more)) at end
    → length raw ≤ end
reach_by false raw more at end t inside none w = grind (arith, nat_tests, t)
reach_by true raw more at end t inside none w =
    let less : end < length raw = grind (arith, nat_tests, t) in
    let y = front_more 16384 raw more in
    let p = print_response w.head in
    let x = front raw in
    let all : length x ≡ length raw = omega (arith, length-take 16384 raw, none.short) in
    let m : length p ≤ length (drop at x) = omega (arith, all, less, w.before, length-drop at x) in
    let e : drop at x ++ y.0 ≡ p ++ w.rest =
    sym (drop-append-le at x y.0 (omega (arith, all, inside))) ∙ ap (λ (t : List ℕ). drop at t) (sym y.1) ∙ w.reads.1 in
    let same : take (length p) (drop at x) ≡ p =
    sym (take-append-le (length p) (drop at x) y.0 m) ∙ ap (λ (t : List ℕ). take (length p) t) e ∙ take-append_seam p w.rest in
    absurd (none.none w.head (drop (length p) (drop at x))
    (w.reads.0, sym (take-append-drop (length p) (drop at x)) ∙ ap (λ (t : List ℕ). t ++ drop (length p) (drop at x)) same))

pub reach_first : (raw more : List ℕ) (at end : ℕ) → at ≤ length raw → Unled raw at → HeadWithin (front (raw ++ more)) at end → length raw ≤ end
reach_first raw more at end inside none w = reach_by (nat_lt end (length raw)) raw more at end refl inside none w
