use Rattle.std.proofs.Common.{◌-◌, ◌++◌, length, drop, sym, ap, arith, length-append, length-take}
use Rattle.std.specs.Vec.{vec_capacity}
use Rattle.std.proofs.lemmas.Bool.{false≢true}
use Rattle.ws_http.proofs.FlowLemmas.{full_by, part_most}
use Rattle.ws_http.proofs.ReplyChunkLemmas.{over_stands, wrong_stands, past_stands, open_stands, still_chunking, last_stands, last_ready, last_small, chunking_short}
use Rattle.ws_http.proofs.reply_chunks.take_chunks.Goals as goal

pub overflow_add-result : goal.overflow_add-result
overflow_add-result c =
    let k = c.requires.live.1 in
    let w = drop c.args.head.start c.requires.live.0 in
    let d = c.in-Last.ensures.ends w k.flows in
    omega (
      arith,
      d.7,
      length-append w c.first-part.result.now,
      k.flows.count,
      k.limit,
      k.final.place,
      k.final.inside,
      k.final.before.inside,
      ap length c.first-part.ensures,
      length-take (8388608 - c.args.point.count) c.args.piece.now,
      length-take 16384 c.requires.live.0,
    )

pub returns-then-part-piece-clause-stands : goal.returns-then-part-piece-clause-stands
returns-then-part-piece-clause-stands c well came k =
    past_stands c.args.need c.args.raw.now.items c.args.body.now.items c.args.head c.args.point came c.args.piece.now k
    c.read_data.new.raw.items c.read_data.new.body.items c.read_data.ensures.heads c.read_data.ensures.inside c.first-part.result.now c.first-part.ensures c.in-Open.point
    (c.in-Open.ensures.ends (drop c.args.head.start came) k.flows) c.if-part-piece.true

pub returns-then-part-piece-clause-short : goal.returns-then-part-piece-clause-short
returns-then-part-piece-clause-short c =
    omega (
      arith,
      c.read_data.ensures.short,
      ap length c.first-part.ensures,
      length-take (8388608 - c.args.point.count) c.args.piece.now,
      chunking_short c.args.need c.args.raw.now.items c.args.body.now.items c.args.head c.args.point c.requires.live.0 c.requires.live.1,
    )

pub returns-else-part-piece-clause-stands : goal.returns-else-part-piece-clause-stands
returns-else-part-piece-clause-stands c well came k =
    open_stands c.args.need c.args.raw.now.items c.args.body.now.items c.args.head c.args.point came c.args.piece.now k
    c.read_data.new.raw.items c.read_data.new.body.items c.read_data.ensures.heads c.read_data.ensures.inside c.first-part.result.now c.first-part.ensures c.in-Open.point
    (c.in-Open.ensures.ends (drop c.args.head.start came) k.flows) (omega (arith, c.if-part-piece.false))

pub returns-else-part-piece-clause-ready : goal.returns-else-part-piece-clause-ready
returns-else-part-piece-clause-ready c = (
  c.requires.live.0 ++ c.args.piece.now,
  still_chunking c.args.need c.args.raw.now.items c.args.body.now.items c.args.head c.args.point c.requires.live.0 c.args.piece.now c.requires.live.1
      c.read_data.new.raw.items c.read_data.new.body.items c.read_data.ensures.heads c.read_data.ensures.inside c.first-part.result.now c.first-part.ensures c.in-Open.point
      (c.in-Open.ensures.ends (drop c.args.head.start c.requires.live.0) c.requires.live.1.flows) (omega (arith, c.if-part-piece.false)),
)

pub returns-else-part-piece-clause-short : goal.returns-else-part-piece-clause-short
returns-else-part-piece-clause-short c =
    omega (
      arith,
      c.read_data.ensures.short,
      ap length c.first-part.ensures,
      length-take (8388608 - c.args.point.count) c.args.piece.now,
      chunking_short c.args.need c.args.raw.now.items c.args.body.now.items c.args.head c.args.point c.requires.live.0 c.requires.live.1,
    )

pub returns-in-Over-clause-stands : goal.returns-in-Over-clause-stands
returns-in-Over-clause-stands c well came k =
    over_stands c.args.need c.args.raw.now.items c.args.body.now.items c.args.head c.args.point came c.args.piece.now k
    c.read_data.new.raw.items c.read_data.new.body.items c.read_data.ensures.heads c.read_data.ensures.inside c.first-part.result.now c.first-part.ensures
    (c.in-Over.ensures.ends (drop c.args.head.start came) k.flows)

pub returns-in-Over-clause-short : goal.returns-in-Over-clause-short
returns-in-Over-clause-short c =
    omega (
      arith,
      c.read_data.ensures.short,
      ap length c.first-part.ensures,
      length-take (8388608 - c.args.point.count) c.args.piece.now,
      chunking_short c.args.need c.args.raw.now.items c.args.body.now.items c.args.head c.args.point c.requires.live.0 c.requires.live.1,
    )

pub returns-in-Wrong-clause-stands : goal.returns-in-Wrong-clause-stands
returns-in-Wrong-clause-stands c well came k =
    wrong_stands c.args.need c.args.raw.now.items c.args.body.now.items c.args.head c.args.point came c.args.piece.now k
    c.read_data.new.raw.items c.read_data.new.body.items c.read_data.ensures.heads c.read_data.ensures.inside c.first-part.result.now c.first-part.ensures
    (c.in-Wrong.ensures.ends (drop c.args.head.start came) k.flows)

pub returns-in-Wrong-clause-short : goal.returns-in-Wrong-clause-short
returns-in-Wrong-clause-short c =
    omega (
      arith,
      c.read_data.ensures.short,
      ap length c.first-part.ensures,
      length-take (8388608 - c.args.point.count) c.args.piece.now,
      chunking_short c.args.need c.args.raw.now.items c.args.body.now.items c.args.head c.args.point c.requires.live.0 c.requires.live.1,
    )

pub returns-in-Last-clause-stands : goal.returns-in-Last-clause-stands
returns-in-Last-clause-stands c well came k =
    last_stands c.args.need c.args.raw.now.items c.args.body.now.items c.args.head c.args.point came c.args.piece.now k
    c.read_data.new.raw.items c.read_data.new.body.items c.read_data.ensures.heads c.read_data.ensures.inside c.first-part.result.now c.first-part.ensures c.in-Last.total
    (c.in-Last.ensures.ends (drop c.args.head.start came) k.flows)

pub returns-in-Last-clause-ready : goal.returns-in-Last-clause-ready
returns-in-Last-clause-ready c =
    last_ready c.args.need c.args.raw.now.items c.args.body.now.items c.args.head c.args.point c.requires.live.0 c.args.piece.now c.requires.live.1
    c.read_data.new.raw.items c.read_data.new.body.items c.read_data.ensures.heads c.read_data.ensures.inside c.first-part.result.now c.first-part.ensures c.in-Last.total
    (c.in-Last.ensures.ends (drop c.args.head.start c.requires.live.0) c.requires.live.1.flows)

pub returns-in-Last-clause-small : goal.returns-in-Last-clause-small
returns-in-Last-clause-small c =
    last_small c.args.need c.args.raw.now.items c.args.body.now.items c.args.head c.args.point c.requires.live.0 c.args.piece.now c.requires.live.1
    c.read_data.new.raw.items c.read_data.new.body.items c.read_data.ensures.heads c.read_data.ensures.inside c.first-part.result.now c.first-part.ensures c.in-Last.total
    (c.in-Last.ensures.ends (drop c.args.head.start c.requires.live.0) c.requires.live.1.flows)

pub returns-in-Last-clause-short : goal.returns-in-Last-clause-short
returns-in-Last-clause-short c =
    omega (
      arith,
      c.read_data.ensures.short,
      ap length c.first-part.ensures,
      length-take (8388608 - c.args.point.count) c.args.piece.now,
      chunking_short c.args.need c.args.raw.now.items c.args.body.now.items c.args.head c.args.point c.requires.live.0 c.requires.live.1,
    )

pub returns-in-NoMemory-clause-ready : goal.returns-in-NoMemory-clause-ready
returns-in-NoMemory-clause-ready c =
    full_by c.args.need (λ part. false≢true (sym (c.in-NoMemory.ensures.memory
    (omega (
      arith,
      c.requires.kept part,
      ap length c.first-part.ensures,
      length-take (8388608 - c.args.point.count) c.args.piece.now,
      chunking_short c.args.need c.args.raw.now.items c.args.body.now.items c.args.head c.args.point c.requires.live.0 c.requires.live.1,
    ))
    (part_most c.args.need (vec_capacity c.args.body.now) part (c.requires.fits part)))))

pub returns-in-NoMemory-clause-short : goal.returns-in-NoMemory-clause-short
returns-in-NoMemory-clause-short c =
    omega (
      arith,
      c.read_data.ensures.short,
      ap length c.first-part.ensures,
      length-take (8388608 - c.args.point.count) c.args.piece.now,
      chunking_short c.args.need c.args.raw.now.items c.args.body.now.items c.args.head c.args.point c.requires.live.0 c.requires.live.1,
    )
