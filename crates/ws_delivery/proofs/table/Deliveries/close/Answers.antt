use Rattle.std.proofs.Common.{sym, ◌∙◌, arith}
use Rattle.ws_delivery.specs.Indexed.{is_end}
use Rattle.ws_delivery.proofs.Counting.{counted_there, counted_less}
use Rattle.ws_delivery.proofs.table.Deliveries.close.Goals as goal

pub take-requires-clause-there : goal.take-requires-clause-there
take-requires-clause-there c =
    let k = c.self.invariant.counts (is_end c.in-Some.pair.exp c.args.lease) in
    let l = counted_there c.args.ver c.args.lease c.in-Some.pair c.self.inside.pairs (sym c.get.ensures ∙ c.in-Some.is) in
    omega arith

pub invariant_of-self : goal.invariant_of-self
invariant_of-self c =
    counted_less c.self.inside.pairs c.close.new.self c.self.inside.ends.entries c.take.new.ends.entries c.args.ver c.args.lease c.in-Some.pair c.self.invariant (sym c.get.ensures ∙ c.in-Some.is) c.close.ensures.entries c.take.ensures.counts c.take.ensures.less
