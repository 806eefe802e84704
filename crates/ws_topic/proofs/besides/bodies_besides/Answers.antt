use Rattle.std.proofs.Common.{◌≡◌, ◌+◌, ◌≤◌, ap, sym, ◌∙◌, arith}
use Rattle.std.specs.List.{sum_by}
use Rattle.std.specs.Map.{values_of}
use Rattle.ws_topic.specs.Besides.{bodies_besides}
use Rattle.ws_topic.specs.ByTopic.{by_bytes}
use Rattle.ws_topic.specs.Rows.{size}
use Rattle.ws_topic.proofs.Keeping.{counted, few, passed}
use Rattle.ws_topic.proofs.besides.bodies_besides.Goals as goal

pub overflow_add-bytes : goal.overflow_add-bytes
overflow_add-bytes c =
    let latest = by_bytes c.args.latest.now.entries in
    let all = few c.args.topic.now c.args.among.now latest c.args.by_number.now.entries in
    let next = ap (bodies_besides c.args.topic.now c.args.among.now latest) c.in-Some.ensures.steps ∙ counted c.args.topic.now c.args.among.now latest (c.in-Some.ver.now, c.in-Some.version.now) c.next.new.self (sym c.is_besides.ensures ∙ c.if-is_besides.true) in
    let so_far = c.loop-ver.invariant.so_far in
    let more = c.size-bytes.ensures in
    let most = c.requires.few in
    omega arith

pub loop-ver-preserved : goal.loop-ver-preserved
loop-ver-preserved c =
    let latest = by_bytes c.args.latest.now.entries in
    let next = ap (bodies_besides c.args.topic.now c.args.among.now latest) c.in-Some.ensures.steps ∙ passed c.args.topic.now c.args.among.now latest (c.in-Some.ver.now, c.in-Some.version.now) c.next.new.self (sym c.is_besides.ensures ∙ c.if-is_besides.false) in
    let so_far = c.loop-ver.invariant.so_far in
    record { next = tt; finite = tt; so_far = omega arith }
