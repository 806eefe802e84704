use Rattle.std.proofs.Common.{ap, sym, ◌∙◌}
use Rattle.ws_delivery.specs.declared.open_pair.OpenPair.{OpenPair}
use Rattle.ws_delivery.proofs.Counting.{counted_still}
use Rattle.ws_delivery.proofs.table.Deliveries.miss.Goals as goal

pub invariant_of-self : goal.invariant_of-self
invariant_of-self c =
    counted_still c.self.inside.pairs c.change.new.self c.self.inside.ends.entries c.args.ver c.args.lease c.in-Some.pair c.missed-pair.result c.self.invariant c.change.ensures.ordered (sym c.get.ensures ∙ c.in-Some.is) (ap (λ (p : OpenPair). p.exp) c.missed-pair.ensures) c.change.ensures.entries
