use Rattle.std.proofs.Common.{ℕ, List, [], ◌++◌, length, take, sym, ap, ◌∙◌, subst, arith, length-append, length-take}
use Rattle.ws_http.specs.declared.flow.Point.{Point}
use Rattle.ws_http.specs.RequestStages.{Chunking, Stands}
use Rattle.ws_http.proofs.ReaderLemmas.{heads_and_piece}
use Rattle.ws_http.proofs.RequestChunkLemmas.{chunking_begins, head_in}
use Rattle.ws_http.proofs.request_chunks.begin_chunks.Goals as goal

pub split_at-requires : goal.split_at-requires
split_at-requires c =
    let raw = c.args.raw.now.items in
    let old = take c.args.before raw in
    omega (
      arith,
      (head_in raw c.args.head c.requires.heads).1,
      ap length c.requires.took,
      length-take c.args.room (old ++ c.args.piece.now),
      length-append old c.args.piece.now,
      length-take c.args.before raw,
    )

pub take_chunks-requires-clause-live : goal.take_chunks-requires-clause-live
take_chunks-requires-clause-live c =
    let room = c.args.room in
    let raw = c.args.raw.now.items in
    let head = c.args.head in
    let front = take head raw in
    let k = chunking_begins room raw head c.requires.least c.requires.heads in (
      front,
      subst (λ (t : List ℕ). Chunking room t c.args.body.now.items head c.begin.result front) (sym c.truncate.ensures.items)
          (subst (λ (t : List ℕ). Chunking room front t head c.begin.result front) (sym c.requires.empty)
          (subst (λ (p : Point). Chunking room front [] head p front) (sym c.begin.ensures) k)),
    )

pub returns-clause-stands : goal.returns-clause-stands
returns-clause-stands c =
    let room = c.args.room in
    let raw = c.args.raw.now.items in
    let head = c.args.head in
    let front = take head raw in
    let k = chunking_begins room raw head c.requires.least c.requires.heads in
    let here = subst (λ (t : List ℕ). Chunking room t c.args.body.now.items head c.begin.result front) (sym c.truncate.ensures.items)
    (subst (λ (t : List ℕ). Chunking room front t head c.begin.result front) (sym c.requires.empty)
    (subst (λ (p : Point). Chunking room front [] head p front) (sym c.begin.ensures) k)) in
    let sum = ap (λ (t : List ℕ). front ++ t) c.split_at.ensures.back
    ∙ heads_and_piece room head c.args.before raw c.args.piece.now c.requires.took c.requires.first (head_in raw head c.requires.heads).1 in
    subst (λ (t : List ℕ). Stands (record { room = room; bytes = c.take_chunks.new.raw.items; content = c.take_chunks.new.body.items; stage = c.take_chunks.result }) t)
    sum (c.take_chunks.ensures.stands front here)
