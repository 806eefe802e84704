use Rattle.std.proofs.Common.{◌≡◌, ◌-◌, ◌≤◌, ℕ, List, ◌++◌, Bool, not, false, length, take, refl, sym, ap, ◌∙◌, subst, arith, length-append, length-take}
use Rattle.std.specs.Prelude.{nat_lt, nat_le}
use Rattle.std.proofs.lemmas.List.{take_min}
use Rattle.std.proofs.Math.Seq.{take-append_seam}
use Rattle.ws_model.specs.Legal.{body_limit}
use Rattle.ws_http.specs.declared.fed.BadWhy.TheVariants as why
use Rattle.ws_http.specs.declared.reply_stage.ReplyStage.TheVariants as stage
use Rattle.ws_http.specs.ResponseStages.{Ready, Small, Judged, Stands, HasInterims, HeadWithin, front, room_of}
use Rattle.ws_http.proofs.ReaderLemmas.{left_over, over_by, take_over}
use Rattle.ws_http.proofs.ReplyReaderLemmas.{front_interims, reply_more, stands_by}
use Rattle.ws_http.proofs.ReplyStageLemmas.{start_small, either_plain, unchunked, filled, fixed_ready, lasting_ready, fixed_judged, fixed_closes, lasting_judged, lasting_closes}
use Rattle.ws_http.proofs.ReplyChunkLemmas.{reach_first}
use Rattle.ws_http.proofs.reply_tail.take_piece.Goals as goal

pub read_lasting-requires : goal.read_lasting-requires
read_lasting-requires c =
    let raw = c.args.raw.now.items in
    let r = rw c.in-Lasting.is at c.requires.ready in
    omega (
      arith,
      (start_small raw c.in-Lasting.head r.0 r.1).1,
      ap length c.in_default.ensures.ok,
      length-append raw c.split_at.result.0.now,
      c.grow.new.kept.ok.0,
      c.len-came.ensures,
    )

pub read_front-requires-clause-heads : goal.read_front-requires-clause-heads
read_front-requires-clause-heads c =
    let raw = c.args.raw.now.items in
    let r = rw c.in-Head.is at c.requires.ready in
    subst (λ (t : List ℕ). HasInterims (front t) c.in-Head.at) (sym (c.deref.ensures.value ∙ c.in_default.ensures.ok))
    (front_interims raw c.split_at.result.0.now c.in-Head.at r.1)

pub begin_chunks-requires-clause-took : goal.begin_chunks-requires-clause-took
begin_chunks-requires-clause-took c =
    let n = c.args.need in
    let raw = c.args.raw.now.items in
    let body = c.args.body.now.items in
    let piece = c.args.piece.now in
    let z = c.split_at.result.0.now in
    let new = c.grow.new.kept.items in
    let room = room_of n in
    let all = raw ++ piece in
    let before : c.len-before.result ≡ length raw = omega (arith, c.args.raw.now.ok.0, c.len-before.ensures) in
    let came : c.len-came.result ≡ length new = omega (arith, c.grow.new.kept.ok.0, c.len-came.ensures) in
    let taken : z ≡ take (room - length raw) piece =
    c.split_at.ensures.front ∙ ap (λ (k : ℕ). take k piece) c.min.ensures ∙ take_min (c.room_of.result - c.len-before.result) piece
    ∙ ap (λ (k : ℕ). take (c.room_of.result - k) piece) before ∙ ap (λ (k : ℕ). take (k - length raw) piece) c.room_of.ensures in
    let took : new ≡ take room all =
    c.in_default.ensures.ok ∙ ap (λ (t : List ℕ). raw ++ t) taken ∙ sym (take_over room raw piece c.requires.short) in
    let old : take c.len-before.result new ≡ raw = (λ i. take (before i) (c.in_default.ensures.ok i)) ∙ take-append_seam raw z in
    took ∙ ap (λ (t : List ℕ). take room (t ++ piece)) (sym old)

pub begin_chunks-requires-clause-first : goal.begin_chunks-requires-clause-first
begin_chunks-requires-clause-first c =
    let raw = c.args.raw.now.items in
    let z = c.split_at.result.0.now in
    let r = rw c.in-Head.is at c.requires.ready in
    let before : c.len-before.result ≡ length raw = omega (arith, c.args.raw.now.ok.0, c.len-before.ensures) in
    let inside : c.in-Head.at ≤ length raw = omega (arith, r.1.inside, length-take 16384 raw) in
    let w = subst (λ (t : List ℕ). HeadWithin (front t) c.in-Head.at c.in-Chunked.head.start) (c.deref.ensures.value ∙ c.in_default.ensures.ok)
    c.in-Chunked.ensures.reach in
    omega (arith, before, reach_first raw z c.in-Head.at c.in-Chunked.head.start inside r.2 w)

pub returns-in-Fixed-clause-stands : goal.returns-in-Fixed-clause-stands
returns-in-Fixed-clause-stands c well =
    let n = c.args.need in
    let raw = c.args.raw.now.items in
    let body = c.args.body.now.items in
    let piece = c.args.piece.now in
    let z = c.split_at.result.0.now in
    let new = c.grow.new.kept.items in
    let room = room_of n in
    let all = raw ++ piece in
    let before : c.len-before.result ≡ length raw = omega (arith, c.args.raw.now.ok.0, c.len-before.ensures) in
    let came : c.len-came.result ≡ length new = omega (arith, c.grow.new.kept.ok.0, c.len-came.ensures) in
    let taken : z ≡ take (room - length raw) piece =
    c.split_at.ensures.front ∙ ap (λ (k : ℕ). take k piece) c.min.ensures ∙ take_min (c.room_of.result - c.len-before.result) piece
    ∙ ap (λ (k : ℕ). take (c.room_of.result - k) piece) before ∙ ap (λ (k : ℕ). take (k - length raw) piece) c.room_of.ensures in
    let took : new ≡ take room all =
    c.in_default.ensures.ok ∙ ap (λ (t : List ℕ). raw ++ t) taken ∙ sym (take_over room raw piece c.requires.short) in
    let f = c.in-Fixed.head in
    let total = c.in-Fixed.total in
    let was = rw c.in-Fixed.is at c.requires.ready in
    let r = subst (λ (t : List ℕ). Ready n t body (stage.Fixed f total)) (sym c.in_default.ensures.ok) (reply_more n raw z body (stage.Fixed f total) refl was) in
    let over = nat_lt room (length all) in
    let is = rw came at c.read_fixed.ensures in
    stands_by n new body all c.read_fixed.result
    (either_plain (nat_le total (length new)) (stage.Whole f total false) (stage.Fixed f total) c.read_fixed.result refl refl is) took
    (fixed_judged n new body over f r.0 r.1 total r.6 r.2 r.3 r.4 r.5 c.read_fixed.result is)
    (λ past. fixed_closes n new body over f r.0 r.1 total r.6 r.2 r.3 r.4 r.5 c.read_fixed.result is (filled room new all took past))

pub returns-in-Fixed-clause-ready : goal.returns-in-Fixed-clause-ready
returns-in-Fixed-clause-ready c =
    let n = c.args.need in
    let raw = c.args.raw.now.items in
    let body = c.args.body.now.items in
    let piece = c.args.piece.now in
    let z = c.split_at.result.0.now in
    let new = c.grow.new.kept.items in
    let room = room_of n in
    let all = raw ++ piece in
    let before : c.len-before.result ≡ length raw = omega (arith, c.args.raw.now.ok.0, c.len-before.ensures) in
    let came : c.len-came.result ≡ length new = omega (arith, c.grow.new.kept.ok.0, c.len-came.ensures) in
    let taken : z ≡ take (room - length raw) piece =
    c.split_at.ensures.front ∙ ap (λ (k : ℕ). take k piece) c.min.ensures ∙ take_min (c.room_of.result - c.len-before.result) piece
    ∙ ap (λ (k : ℕ). take (c.room_of.result - k) piece) before ∙ ap (λ (k : ℕ). take (k - length raw) piece) c.room_of.ensures in
    let took : new ≡ take room all =
    c.in_default.ensures.ok ∙ ap (λ (t : List ℕ). raw ++ t) taken ∙ sym (take_over room raw piece c.requires.short) in
    let f = c.in-Fixed.head in
    let total = c.in-Fixed.total in
    let was = rw c.in-Fixed.is at c.requires.ready in
    let r = subst (λ (t : List ℕ). Ready n t body (stage.Fixed f total)) (sym c.in_default.ensures.ok) (reply_more n raw z body (stage.Fixed f total) refl was) in
    fixed_ready n new body f total (nat_le total (length new)) c.read_fixed.result r refl (rw came at c.read_fixed.ensures)

pub returns-in-Lasting-clause-stands : goal.returns-in-Lasting-clause-stands
returns-in-Lasting-clause-stands c well =
    let n = c.args.need in
    let raw = c.args.raw.now.items in
    let body = c.args.body.now.items in
    let piece = c.args.piece.now in
    let z = c.split_at.result.0.now in
    let new = c.grow.new.kept.items in
    let room = room_of n in
    let all = raw ++ piece in
    let before : c.len-before.result ≡ length raw = omega (arith, c.args.raw.now.ok.0, c.len-before.ensures) in
    let came : c.len-came.result ≡ length new = omega (arith, c.grow.new.kept.ok.0, c.len-came.ensures) in
    let taken : z ≡ take (room - length raw) piece =
    c.split_at.ensures.front ∙ ap (λ (k : ℕ). take k piece) c.min.ensures ∙ take_min (c.room_of.result - c.len-before.result) piece
    ∙ ap (λ (k : ℕ). take (c.room_of.result - k) piece) before ∙ ap (λ (k : ℕ). take (k - length raw) piece) c.room_of.ensures in
    let took : new ≡ take room all =
    c.in_default.ensures.ok ∙ ap (λ (t : List ℕ). raw ++ t) taken ∙ sym (take_over room raw piece c.requires.short) in
    let f = c.in-Lasting.head in
    let was = rw c.in-Lasting.is at c.requires.ready in
    let r = subst (λ (t : List ℕ). Ready n t body (stage.Lasting f)) (sym c.in_default.ensures.ok) (reply_more n raw z body (stage.Lasting f) refl was) in
    let over = nat_lt room (length all) in
    let is = rw came at c.read_lasting.ensures in
    stands_by n new body all c.read_lasting.result
    (either_plain (nat_lt body_limit (length new - f.start)) (stage.Bad why.TooLong) (stage.Lasting f) c.read_lasting.result refl refl is) took
    (lasting_judged n new body over f r.0 r.3 r.1 r.2 c.read_lasting.result is)
    (λ past. lasting_closes n new body over f r.0 r.3 r.1 r.2 c.read_lasting.result is (filled room new all took past))

pub returns-in-Lasting-clause-ready : goal.returns-in-Lasting-clause-ready
returns-in-Lasting-clause-ready c =
    let n = c.args.need in
    let raw = c.args.raw.now.items in
    let body = c.args.body.now.items in
    let piece = c.args.piece.now in
    let z = c.split_at.result.0.now in
    let new = c.grow.new.kept.items in
    let room = room_of n in
    let all = raw ++ piece in
    let before : c.len-before.result ≡ length raw = omega (arith, c.args.raw.now.ok.0, c.len-before.ensures) in
    let came : c.len-came.result ≡ length new = omega (arith, c.grow.new.kept.ok.0, c.len-came.ensures) in
    let taken : z ≡ take (room - length raw) piece =
    c.split_at.ensures.front ∙ ap (λ (k : ℕ). take k piece) c.min.ensures ∙ take_min (c.room_of.result - c.len-before.result) piece
    ∙ ap (λ (k : ℕ). take (c.room_of.result - k) piece) before ∙ ap (λ (k : ℕ). take (k - length raw) piece) c.room_of.ensures in
    let took : new ≡ take room all =
    c.in_default.ensures.ok ∙ ap (λ (t : List ℕ). raw ++ t) taken ∙ sym (take_over room raw piece c.requires.short) in
    let f = c.in-Lasting.head in
    let was = rw c.in-Lasting.is at c.requires.ready in
    let r = subst (λ (t : List ℕ). Ready n t body (stage.Lasting f)) (sym c.in_default.ensures.ok) (reply_more n raw z body (stage.Lasting f) refl was) in
    lasting_ready n new body f (nat_lt body_limit (length new - f.start)) c.read_lasting.result r (rw came at c.read_lasting.ensures)

pub returns-in-Chunked-clause-stands : goal.returns-in-Chunked-clause-stands
returns-in-Chunked-clause-stands c well =
    let n = c.args.need in
    let raw = c.args.raw.now.items in
    let body = c.args.body.now.items in
    let piece = c.args.piece.now in
    let z = c.split_at.result.0.now in
    let new = c.grow.new.kept.items in
    let room = room_of n in
    let all = raw ++ piece in
    let before : c.len-before.result ≡ length raw = omega (arith, c.args.raw.now.ok.0, c.len-before.ensures) in
    let came : c.len-came.result ≡ length new = omega (arith, c.grow.new.kept.ok.0, c.len-came.ensures) in
    let taken : z ≡ take (room - length raw) piece =
    c.split_at.ensures.front ∙ ap (λ (k : ℕ). take k piece) c.min.ensures ∙ take_min (c.room_of.result - c.len-before.result) piece
    ∙ ap (λ (k : ℕ). take (c.room_of.result - k) piece) before ∙ ap (λ (k : ℕ). take (k - length raw) piece) c.room_of.ensures in
    let took : new ≡ take room all =
    c.in_default.ensures.ok ∙ ap (λ (t : List ℕ). raw ++ t) taken ∙ sym (take_over room raw piece c.requires.short) in
    let old : take c.len-before.result new ≡ raw = (λ i. take (before i) (c.in_default.ensures.ok i)) ∙ take-append_seam raw z in
    subst (λ (t : List ℕ). Stands (record { need = n; bytes = c.begin_chunks.new.raw.items; content = c.begin_chunks.new.body.items; stage = c.begin_chunks.result })
    (t ++ piece) false) old (c.begin_chunks.ensures.stands well)

pub returns-in_default-read_front : goal.returns-in_default-read_front
returns-in_default-read_front c =
    let n = c.args.need in
    let raw = c.args.raw.now.items in
    let body = c.args.body.now.items in
    let piece = c.args.piece.now in
    let z = c.split_at.result.0.now in
    let new = c.grow.new.kept.items in
    let room = room_of n in
    let all = raw ++ piece in
    let before : c.len-before.result ≡ length raw = omega (arith, c.args.raw.now.ok.0, c.len-before.ensures) in
    let came : c.len-came.result ≡ length new = omega (arith, c.grow.new.kept.ok.0, c.len-came.ensures) in
    let taken : z ≡ take (room - length raw) piece =
    c.split_at.ensures.front ∙ ap (λ (k : ℕ). take k piece) c.min.ensures ∙ take_min (c.room_of.result - c.len-before.result) piece
    ∙ ap (λ (k : ℕ). take (c.room_of.result - k) piece) before ∙ ap (λ (k : ℕ). take (k - length raw) piece) c.room_of.ensures in
    let took : new ≡ take room all =
    c.in_default.ensures.ok ∙ ap (λ (t : List ℕ). raw ++ t) taken ∙ sym (take_over room raw piece c.requires.short) in
    let r = rw c.in-Head.is at c.requires.ready in
    let s = c.read_front.result in
    let e = c.read_front.ensures in
    let plain = unchunked s c.in_default-read_front.not-Chunked in
    let here = c.deref.ensures.value in
    let over = not c.is_empty.result in
    let rest : over ≡ nat_lt (room - length raw) (length piece) =
    ap (λ (b : Bool). not b) c.is_empty.ensures
    ∙ left_over (c.room_of.result - c.len-before.result) (length piece) (length c.split_at.result.1.now) c.min.result c.min.ensures c.split_at.ensures.back_len
    ∙ ap (λ (k : ℕ). nat_lt (c.room_of.result - k) (length piece)) before ∙ ap (λ (k : ℕ). nat_lt (k - length raw) (length piece)) c.room_of.ensures in
    let past : nat_lt room (length all) ≡ over =
    ap (λ (k : ℕ). nat_lt room k) (length-append raw piece) ∙ over_by room (length raw) (length piece) over (sym rest) c.requires.short in
    record {
      stands = λ well. stands_by n new body all s plain took
          (subst (λ (b : Bool). Judged n new b body s) (sym past) (subst (λ (t : List ℕ). Judged n t over body s) here (e.judged plain body)))
          (λ t. e.closes plain (sym past ∙ t));
      ready = subst (λ (t : List ℕ). Ready n t body s) here (e.ready plain body r.0);
      small = subst (λ (t : List ℕ). Small t body s) here (e.small body);
      short = omega (arith, ap length took, length-take room all);
      raw_capacity = c.grow.ensures.capacity;
      body_capacity = omega arith;
    }
