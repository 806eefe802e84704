use Rattle.std.proofs.Common.{◌-◌, ◌++◌, length, drop, sym, ap, arith, length-append, length-take}
use Rattle.std.proofs.lemmas.Bool.{false≢true}
use Rattle.ws_http.proofs.RequestChunkLemmas.{never_over, wrong_stands, bad_ready, past_stands, past_ready, open_stands, still_chunking, last_stands, last_ready, chunking_short}
use Rattle.ws_http.proofs.request_chunks.take_chunks.Goals as goal

pub overflow_add-result : goal.overflow_add-result
overflow_add-result c =
    let k = c.requires.live.1 in
    let w = drop c.args.head c.requires.live.0 in
    let d = c.in-Last.ensures.ends w k.flows in
    omega (
      arith,
      d.7,
      length-append w c.first-part.result.now,
      k.flows.count,
      k.limit,
      c.requires.most,
      ap length c.first-part.ensures,
      length-take (c.args.room - c.args.head - c.args.point.count) c.args.piece.now,
    )

pub unreachable-requires : goal.unreachable-requires
unreachable-requires c =
    let k = c.requires.live.1 in
    never_over c.args.room c.args.raw.now.items c.args.body.now.items c.args.head c.args.point c.requires.live.0 c.args.piece.now k
    c.read_data.new.raw.items c.read_data.new.body.items c.read_data.ensures.heads c.read_data.ensures.inside c.first-part.result.now c.first-part.ensures
    (c.in-Over.ensures.ends (drop c.args.head c.requires.live.0) k.flows)

pub unreachable-requires-in-NoMemory : goal.unreachable-requires-in-NoMemory
unreachable-requires-in-NoMemory c =
    false≢true (sym (c.in-NoMemory.ensures.memory
    (omega (
      arith,
      c.requires.kept,
      ap length c.first-part.ensures,
      length-take (c.args.room - c.args.head - c.args.point.count) c.args.piece.now,
      chunking_short c.args.room c.args.raw.now.items c.args.body.now.items c.args.head c.args.point c.requires.live.0 c.requires.live.1,
    ))
    c.requires.fits))

pub returns-then-part-piece-clause-stands : goal.returns-then-part-piece-clause-stands
returns-then-part-piece-clause-stands c came k =
    past_stands c.args.room c.args.raw.now.items c.args.body.now.items c.args.head c.args.point came c.args.piece.now k
    c.read_data.new.raw.items c.read_data.new.body.items c.read_data.ensures.heads c.read_data.ensures.inside c.first-part.result.now c.first-part.ensures c.in-Open.point
    (c.in-Open.ensures.ends (drop c.args.head came) k.flows) c.if-part-piece.true

pub returns-then-part-piece-clause-ready : goal.returns-then-part-piece-clause-ready
returns-then-part-piece-clause-ready c =
    past_ready c.args.room c.args.raw.now.items c.args.body.now.items c.args.head c.args.point c.requires.live.0 c.args.piece.now c.requires.live.1
    c.read_data.new.raw.items c.read_data.new.body.items c.read_data.ensures.heads c.read_data.ensures.inside c.first-part.result.now c.first-part.ensures

pub returns-else-part-piece-clause-stands : goal.returns-else-part-piece-clause-stands
returns-else-part-piece-clause-stands c came k =
    open_stands c.args.room c.args.raw.now.items c.args.body.now.items c.args.head c.args.point came c.args.piece.now k
    c.read_data.new.raw.items c.read_data.new.body.items c.read_data.ensures.heads c.read_data.ensures.inside c.first-part.result.now c.first-part.ensures c.in-Open.point
    (c.in-Open.ensures.ends (drop c.args.head came) k.flows) (omega (arith, c.if-part-piece.false))

pub returns-else-part-piece-clause-ready : goal.returns-else-part-piece-clause-ready
returns-else-part-piece-clause-ready c = (
  c.requires.live.0 ++ c.args.piece.now,
  still_chunking c.args.room c.args.raw.now.items c.args.body.now.items c.args.head c.args.point c.requires.live.0 c.args.piece.now c.requires.live.1
      c.read_data.new.raw.items c.read_data.new.body.items c.read_data.ensures.heads c.read_data.ensures.inside c.first-part.result.now c.first-part.ensures c.in-Open.point
      (c.in-Open.ensures.ends (drop c.args.head c.requires.live.0) c.requires.live.1.flows) (omega (arith, c.if-part-piece.false)),
)

pub returns-in-Wrong-clause-stands : goal.returns-in-Wrong-clause-stands
returns-in-Wrong-clause-stands c came k =
    wrong_stands c.args.room c.args.raw.now.items c.args.body.now.items c.args.head c.args.point came c.args.piece.now k
    c.read_data.new.raw.items c.read_data.new.body.items c.read_data.ensures.heads c.read_data.ensures.inside c.first-part.result.now c.first-part.ensures
    (c.in-Wrong.ensures.ends (drop c.args.head came) k.flows)

pub returns-in-Wrong-clause-ready : goal.returns-in-Wrong-clause-ready
returns-in-Wrong-clause-ready c =
    bad_ready c.args.room c.args.raw.now.items c.args.body.now.items c.args.head c.args.point c.requires.live.0 c.args.piece.now c.requires.live.1
    c.read_data.new.raw.items c.read_data.new.body.items c.read_data.ensures.heads c.read_data.ensures.inside c.first-part.result.now c.first-part.ensures

pub returns-in-Last-clause-stands : goal.returns-in-Last-clause-stands
returns-in-Last-clause-stands c came k =
    last_stands c.args.room c.args.raw.now.items c.args.body.now.items c.args.head c.args.point came c.args.piece.now k
    c.read_data.new.raw.items c.read_data.new.body.items c.read_data.ensures.heads c.read_data.ensures.inside c.first-part.result.now c.first-part.ensures c.in-Last.total
    (c.in-Last.ensures.ends (drop c.args.head came) k.flows)

pub returns-in-Last-clause-ready : goal.returns-in-Last-clause-ready
returns-in-Last-clause-ready c =
    last_ready c.args.room c.args.raw.now.items c.args.body.now.items c.args.head c.args.point c.requires.live.0 c.args.piece.now c.requires.live.1
    c.read_data.new.raw.items c.read_data.new.body.items c.read_data.ensures.heads c.read_data.ensures.inside c.first-part.result.now c.first-part.ensures c.in-Last.total
    (c.in-Last.ensures.ends (drop c.args.head c.requires.live.0) c.requires.live.1.flows)

pub returns-then-part-piece-clause-short : goal.returns-then-part-piece-clause-short
returns-then-part-piece-clause-short c =
    omega (
      arith,
      c.read_data.ensures.short,
      ap length c.first-part.ensures,
      length-take (c.args.room - c.args.head - c.args.point.count) c.args.piece.now,
      chunking_short c.args.room c.args.raw.now.items c.args.body.now.items c.args.head c.args.point c.requires.live.0 c.requires.live.1,
    )

pub returns-else-part-piece-clause-short : goal.returns-else-part-piece-clause-short
returns-else-part-piece-clause-short c =
    omega (
      arith,
      c.read_data.ensures.short,
      ap length c.first-part.ensures,
      length-take (c.args.room - c.args.head - c.args.point.count) c.args.piece.now,
      chunking_short c.args.room c.args.raw.now.items c.args.body.now.items c.args.head c.args.point c.requires.live.0 c.requires.live.1,
    )

pub returns-in-Wrong-clause-short : goal.returns-in-Wrong-clause-short
returns-in-Wrong-clause-short c =
    omega (
      arith,
      c.read_data.ensures.short,
      ap length c.first-part.ensures,
      length-take (c.args.room - c.args.head - c.args.point.count) c.args.piece.now,
      chunking_short c.args.room c.args.raw.now.items c.args.body.now.items c.args.head c.args.point c.requires.live.0 c.requires.live.1,
    )

pub returns-in-Last-clause-short : goal.returns-in-Last-clause-short
returns-in-Last-clause-short c =
    omega (
      arith,
      c.read_data.ensures.short,
      ap length c.first-part.ensures,
      length-take (c.args.room - c.args.head - c.args.point.count) c.args.piece.now,
      chunking_short c.args.room c.args.raw.now.items c.args.body.now.items c.args.head c.args.point c.requires.live.0 c.requires.live.1,
    )
