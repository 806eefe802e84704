use Rattle.std.proofs.Common.{true, ap, sym, subst, ◌∙◌}
use Rattle.std.specs.Prelude.{nat_lt}
use Rattle.ws_delivery.specs.Table.{number_owed}
use Rattle.ws_delivery.specs.Stands.{StandsFor}
use Rattle.ws_delivery.proofs.Counting.{all_counted, owed_counted}
use Rattle.ws_delivery.proofs.Owing.{owed_number}
use Rattle.ws_delivery.proofs.table.Deliveries.owed.Goals as goal

pub number_after-requires : goal.number_after-requires
number_after-requires c = record { all = c.len.ensures.len ∙ sym (c.self.invariant.counts (λ q. true) ∙ all_counted c.self.inside.pairs) }

pub returns-clause-number : goal.returns-clause-number
returns-clause-number c = c.number_after.ensures ∙ c.self.invariant.counts (λ q. nat_lt c.args.t q.0) ∙ owed_counted c.args.t c.self.inside.pairs ∙ ap (number_owed c.args.t) c.self.view_is

pub returns-clause-stands : goal.returns-clause-stands
returns-clause-stands c h since legal stands later =
    c.number_after.ensures ∙ c.self.invariant.counts (λ q. nat_lt c.args.t q.0) ∙ owed_counted c.args.t c.self.inside.pairs
    ∙ owed_number h since c.args.t c.self.inside.pairs c.len.ensures.ordered legal (subst (λ rows. StandsFor h since rows) (sym c.self.view_is) stands) later
