use Rattle.std.proofs.Common.{ap, ◌∙◌}
use Rattle.std.specs.Prelude.{cond, None}
use Rattle.ws_fate.specs.Rows.{is_here, standing_at}
use Rattle.ws_fate.proofs.Counting.{counted_less, some_open}
use Rattle.ws_fate.proofs.Keyed.{looks_by_key}
use Rattle.ws_fate.proofs.table.Fates.unborn.Goals as goal

pub take-requires : goal.take-requires
take-requires c = record { there = some_open c.args.ver c.args.lease c.self.inside.by_pair.entries c.self.inside.open_counts c.self.invariant (ap (standing_at c.args.ver c.args.lease) c.self.view_is ∙ c.requires.is_open) }

pub invariant_of-self : goal.invariant_of-self
invariant_of-self c =
    counted_less c.args.ver c.args.lease c.self.inside.by_pair.entries c.remove.new.self.entries c.self.inside.open_counts c.take.new.self c.self.invariant (ap (standing_at c.args.ver c.args.lease) c.self.view_is ∙ c.requires.is_open) c.remove.ensures.entries c.take.ensures.less

pub returns-clause-look : goal.returns-clause-look
returns-clause-look c v n =
    looks_by_key c.self.inside.by_pair.entries c.remove.new.self.entries c.args.ver c.args.lease None c.remove.ensures.updates.0 v n
    ∙ ap (λ rows. cond (is_here c.args.ver c.args.lease v n) None (standing_at v n rows)) c.self.view_is
