use Rattle.std.proofs.Common.{ℕ, List, [], ◌++◌, length, take, sym, ap, ◌∙◌, subst, arith, length-append, length-take, false}
use Rattle.ws_http.specs.declared.flow.Point.{Point}
use Rattle.ws_http.specs.ResponseStages.{Chunking, Stands, room_of}
use Rattle.ws_http.proofs.ReplyStageLemmas.{start_small}
use Rattle.ws_http.proofs.ReaderLemmas.{heads_and_piece}
use Rattle.ws_http.proofs.ReplyChunkLemmas.{chunking_begins}
use Rattle.ws_http.proofs.reply_chunks.begin_chunks.Goals as goal

pub split_at-requires : goal.split_at-requires
split_at-requires c =
    let raw = c.args.raw.now.items in
    let h = c.requires.heads in
    let old = take c.args.before raw in
    omega (
      arith,
      (start_small raw c.args.head h.0 h.1).1,
      ap length c.requires.took,
      length-take (room_of c.args.need) (old ++ c.args.piece.now),
      length-append old c.args.piece.now,
      length-take c.args.before raw,
    )

pub take_chunks-requires-clause-live : goal.take_chunks-requires-clause-live
take_chunks-requires-clause-live c =
    let n = c.args.need in
    let raw = c.args.raw.now.items in
    let f = c.args.head in
    let h = c.requires.heads in
    let heads = take f.start raw in
    let k = chunking_begins n raw f h.0 h.1 h.2 h.3 in (
      heads,
      subst (λ (t : List ℕ). Chunking n t c.args.body.now.items f c.begin.result heads) (sym c.truncate.ensures.items)
          (subst (λ (t : List ℕ). Chunking n heads t f c.begin.result heads) (sym c.requires.empty)
          (subst (λ (p : Point). Chunking n heads [] f p heads) (sym c.begin.ensures) k)),
    )

pub returns-clause-stands : goal.returns-clause-stands
returns-clause-stands c well =
    let n = c.args.need in
    let raw = c.args.raw.now.items in
    let f = c.args.head in
    let h = c.requires.heads in
    let heads = take f.start raw in
    let k = chunking_begins n raw f h.0 h.1 h.2 h.3 in
    let here = subst (λ (t : List ℕ). Chunking n t c.args.body.now.items f c.begin.result heads) (sym c.truncate.ensures.items)
    (subst (λ (t : List ℕ). Chunking n heads t f c.begin.result heads) (sym c.requires.empty)
    (subst (λ (p : Point). Chunking n heads [] f p heads) (sym c.begin.ensures) k)) in
    let sum = ap (λ (t : List ℕ). heads ++ t) c.split_at.ensures.back
    ∙ heads_and_piece (room_of n) f.start c.args.before raw c.args.piece.now c.requires.took c.requires.first (start_small raw f h.0 h.1).1 in
    subst (λ (t : List ℕ). Stands (record { need = n; bytes = c.take_chunks.new.raw.items; content = c.take_chunks.new.body.items; stage = c.take_chunks.result }) t false)
    sum (c.take_chunks.ensures.stands well heads here)
