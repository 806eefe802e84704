use Rattle.std.proofs.Common.{ap, ◌∙◌, arith}
use Rattle.ws_delivery.specs.Table.{pair_at, fresh}
use Rattle.ws_delivery.specs.Indexed.{is_end}
use Rattle.ws_delivery.proofs.Counting.{few_counted, counted_more}
use Rattle.ws_delivery.proofs.table.Deliveries.born.Goals as goal

pub add-requires-clause-few : goal.add-requires-clause-few
add-requires-clause-few c =
    let k = c.self.invariant.counts (is_end c.args.exp c.args.lease) in
    let l = few_counted (λ e. is_end c.args.exp c.args.lease (e.1.exp, e.0.0)) c.self.inside.pairs in
    let m = c.len.ensures.len in
    let s = c.len.ensures.small in
    omega arith

pub invariant_of-self-in-Ok : goal.invariant_of-self-in-Ok
invariant_of-self-in-Ok c =
    counted_more c.self.inside.pairs c.open.new.self c.self.inside.ends.entries c.add.new.ends.entries c.args.ver c.args.lease (fresh c.args.exp c.args.t) c.self.invariant (ap (pair_at c.args.ver c.args.lease) c.self.view_is ∙ c.requires.new) c.in-Ok.ensures.entries c.in_ok-add.ensures.counts c.in_ok-add.ensures.more
