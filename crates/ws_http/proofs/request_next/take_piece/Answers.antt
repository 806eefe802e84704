use Rattle.std.proofs.Common.{◌≡◌, ◌-◌, ℕ, List, [], ◌++◌, Bool, not, length, take, sym, ap, ◌∙◌, subst, arith, length-append, length-take}
use Rattle.std.specs.Prelude.{nat_lt}
use Rattle.std.proofs.lemmas.List.{take_min}
use Rattle.std.proofs.Math.Seq.{take-append_seam}
use Rattle.ws_http.specs.declared.head.Framing.TheVariants as framing
use Rattle.ws_http.specs.declared.stage.Stage.TheVariants as stage
use Rattle.ws_http.specs.RequestStages.{Ready, HoldsFor, HasHead, Stands}
use Rattle.ws_http.proofs.ReaderLemmas.{left_over, over_by, take_over, fixed_more, stands_plain, reach_first, unchunked}
use Rattle.ws_http.proofs.request_next.take_piece.Goals as goal

pub read_fixed-requires-clause-ready : goal.read_fixed-requires-clause-ready
read_fixed-requires-clause-ready c =
    let x = c.in-Fixed in
    let room = c.args.room in
    let raw = c.args.raw.now.items in
    let r = rw x.is at c.requires.ready in
    let here = fixed_more room raw c.split_at.result.0.now c.args.body.now.items x.head x.total r in
    let none = subst (λ (t : List ℕ). Ready room (raw ++ c.split_at.result.0.now) t (stage.Fixed x.head x.total)) r.0 here in
    subst (λ (t : List ℕ). Ready room t [] (stage.Fixed x.head x.total)) (sym (c.deref.ensures.value ∙ c.keep.ensures.items)) none

pub returns-in-Fixed-clause-stands : goal.returns-in-Fixed-clause-stands
returns-in-Fixed-clause-stands c =
    let room = c.args.room in
    let raw = c.args.raw.now.items in
    let body = c.args.body.now.items in
    let piece = c.args.piece.now in
    let z = c.split_at.result.0.now in
    let new = c.keep.new.kept.items in
    let all = raw ++ piece in
    let before : c.len-before.result ≡ length raw = omega (arith, c.args.raw.now.ok.0, c.len-before.ensures) in
    let taken : z ≡ take (room - length raw) piece =
    c.split_at.ensures.front ∙ ap (λ (k : ℕ). take k piece) c.min.ensures ∙ take_min (room - c.len-before.result) piece
    ∙ ap (λ (k : ℕ). take (room - k) piece) before in
    let took : new ≡ take room all =
    c.keep.ensures.items ∙ ap (λ (t : List ℕ). raw ++ t) taken ∙ sym (take_over room raw piece c.requires.short) in
    let over = not c.is_empty-over.result in
    let rest : over ≡ nat_lt (room - length raw) (length piece) =
    ap (λ (b : Bool). not b) c.is_empty-over.ensures
    ∙ left_over (room - c.len-before.result) (length piece) (length c.split_at.result.1.now) c.min.result c.min.ensures c.split_at.ensures.back_len
    ∙ ap (λ (k : ℕ). nat_lt (room - k) (length piece)) before in
    let past : nat_lt room (length all) ≡ over =
    ap (λ (k : ℕ). nat_lt room k) (length-append raw piece) ∙ over_by room (length raw) (length piece) over (sym rest) c.requires.short in
    let r = rw c.in-Fixed.is at c.requires.ready in
    let s = c.read_fixed.result in
    let e = c.read_fixed.ensures in
    let here = c.deref.ensures.value in
    subst (λ (t : List ℕ). Stands (record { room = room; bytes = new; content = t; stage = s }) all) (sym r.0)
    (stands_plain room new all over s c.requires.least took past e.plain (subst (λ (t : List ℕ). HoldsFor room t over [] s) here e.holds)
    (subst (λ (t : List ℕ). Ready room t [] s) here e.ready) e.closes)

pub returns-in-Fixed-clause-ready : goal.returns-in-Fixed-clause-ready
returns-in-Fixed-clause-ready c =
    let r = rw c.in-Fixed.is at c.requires.ready in
    let s = c.read_fixed.result in
    subst (λ (t : List ℕ). Ready c.args.room c.keep.new.kept.items t s) (sym r.0)
    (subst (λ (t : List ℕ). Ready c.args.room t [] s) c.deref.ensures.value c.read_fixed.ensures.ready)

pub begin_chunks-requires-clause-took : goal.begin_chunks-requires-clause-took
begin_chunks-requires-clause-took c =
    let room = c.args.room in
    let raw = c.args.raw.now.items in
    let body = c.args.body.now.items in
    let piece = c.args.piece.now in
    let z = c.split_at.result.0.now in
    let new = c.keep.new.kept.items in
    let all = raw ++ piece in
    let before : c.len-before.result ≡ length raw = omega (arith, c.args.raw.now.ok.0, c.len-before.ensures) in
    let taken : z ≡ take (room - length raw) piece =
    c.split_at.ensures.front ∙ ap (λ (k : ℕ). take k piece) c.min.ensures ∙ take_min (room - c.len-before.result) piece
    ∙ ap (λ (k : ℕ). take (room - k) piece) before in
    let took : new ≡ take room all =
    c.keep.ensures.items ∙ ap (λ (t : List ℕ). raw ++ t) taken ∙ sym (take_over room raw piece c.requires.short) in
    let old : take c.len-before.result new ≡ raw = (λ i. take (before i) (c.keep.ensures.items i)) ∙ take-append_seam raw z in
    took ∙ ap (λ (t : List ℕ). take room (t ++ piece)) (sym old)

pub begin_chunks-requires-clause-first : goal.begin_chunks-requires-clause-first
begin_chunks-requires-clause-first c =
    let raw = c.args.raw.now.items in
    let z = c.split_at.result.0.now in
    let r = rw c.in-Head.is at c.requires.ready in
    let before : c.len-before.result ≡ length raw = omega (arith, c.args.raw.now.ok.0, c.len-before.ensures) in
    let w = subst (λ (t : List ℕ). HasHead t c.in-Chunked.head framing.Chunked) (c.deref-in-Head.ensures.value ∙ c.keep.ensures.items)
    c.in-Chunked.ensures.begun in
    omega (arith, before, reach_first raw z c.in-Chunked.head framing.Chunked r.1 w)

pub returns-in-Chunked-clause-stands : goal.returns-in-Chunked-clause-stands
returns-in-Chunked-clause-stands c =
    let room = c.args.room in
    let raw = c.args.raw.now.items in
    let body = c.args.body.now.items in
    let piece = c.args.piece.now in
    let z = c.split_at.result.0.now in
    let new = c.keep.new.kept.items in
    let all = raw ++ piece in
    let before : c.len-before.result ≡ length raw = omega (arith, c.args.raw.now.ok.0, c.len-before.ensures) in
    let taken : z ≡ take (room - length raw) piece =
    c.split_at.ensures.front ∙ ap (λ (k : ℕ). take k piece) c.min.ensures ∙ take_min (room - c.len-before.result) piece
    ∙ ap (λ (k : ℕ). take (room - k) piece) before in
    let took : new ≡ take room all =
    c.keep.ensures.items ∙ ap (λ (t : List ℕ). raw ++ t) taken ∙ sym (take_over room raw piece c.requires.short) in
    let old : take c.len-before.result new ≡ raw = (λ i. take (before i) (c.keep.ensures.items i)) ∙ take-append_seam raw z in
    subst (λ (t : List ℕ). Stands (record { room = room; bytes = c.begin_chunks.new.raw.items; content = c.begin_chunks.new.body.items; stage = c.begin_chunks.result })
    (t ++ piece)) old c.begin_chunks.ensures.stands

pub returns-in_default-read_head : goal.returns-in_default-read_head
returns-in_default-read_head c =
    let room = c.args.room in
    let raw = c.args.raw.now.items in
    let body = c.args.body.now.items in
    let piece = c.args.piece.now in
    let z = c.split_at.result.0.now in
    let new = c.keep.new.kept.items in
    let all = raw ++ piece in
    let before : c.len-before.result ≡ length raw = omega (arith, c.args.raw.now.ok.0, c.len-before.ensures) in
    let taken : z ≡ take (room - length raw) piece =
    c.split_at.ensures.front ∙ ap (λ (k : ℕ). take k piece) c.min.ensures ∙ take_min (room - c.len-before.result) piece
    ∙ ap (λ (k : ℕ). take (room - k) piece) before in
    let took : new ≡ take room all =
    c.keep.ensures.items ∙ ap (λ (t : List ℕ). raw ++ t) taken ∙ sym (take_over room raw piece c.requires.short) in
    let over = not c.is_empty-over.result in
    let rest : over ≡ nat_lt (room - length raw) (length piece) =
    ap (λ (b : Bool). not b) c.is_empty-over.ensures
    ∙ left_over (room - c.len-before.result) (length piece) (length c.split_at.result.1.now) c.min.result c.min.ensures c.split_at.ensures.back_len
    ∙ ap (λ (k : ℕ). nat_lt (room - k) (length piece)) before in
    let past : nat_lt room (length all) ≡ over =
    ap (λ (k : ℕ). nat_lt room k) (length-append raw piece) ∙ over_by room (length raw) (length piece) over (sym rest) c.requires.short in
    let r = rw c.in-Head.is at c.requires.ready in
    let s = c.read_head.result in
    let e = c.read_head.ensures in
    let plain = unchunked s c.in_default-read_head.not-Chunked in
    let here = c.deref-in-Head.ensures.value in
    let ready = subst (λ (t : List ℕ). Ready room t [] s) here (e.ready plain) in
    record {
      stands = subst (λ (t : List ℕ). Stands (record { room = room; bytes = new; content = t; stage = s }) all) (sym r.0)
          (stands_plain room new all over s c.requires.least took past plain (subst (λ (t : List ℕ). HoldsFor room t over [] s) here (e.holds plain))
          ready (e.closes plain));
      ready = subst (λ (t : List ℕ). Ready room new t s) (sym r.0) ready;
      short = omega (arith, ap length took, length-take room all);
      raw_capacity = c.keep.ensures.capacity;
      body_capacity = omega arith;
    }
