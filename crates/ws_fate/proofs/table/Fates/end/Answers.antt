use Rattle.std.proofs.Common.{ap, ◌∙◌}
use Rattle.std.specs.Prelude.{cond, Some}
use Rattle.ws_fate.specs.Rows.{is_here, standing_at}
use Rattle.ws_fate.proofs.Counting.{counted_off, some_open}
use Rattle.ws_fate.proofs.Keyed.{looks_by_key}
use Rattle.ws_fate.proofs.table.Fates.end.Goals as goal

pub end-requires : goal.end-requires
end-requires c = record { there = some_open c.args.ver c.args.lease c.self.inside.by_pair.entries c.self.inside.open_counts c.self.invariant (ap (standing_at c.args.ver c.args.lease) c.self.view_is ∙ c.requires.is_open) }

pub invariant_of-self : goal.invariant_of-self
invariant_of-self c =
    counted_off c.args.ver c.args.lease c.args.how c.self.inside.by_pair.entries c.insert.new.self.entries c.self.inside.open_counts c.end.new.self c.self.invariant c.insert.ensures.was_ordered (ap (standing_at c.args.ver c.args.lease) c.self.view_is ∙ c.requires.is_open) c.in-Ok.ensures.entries c.end.ensures.less

pub returns-clause-look : goal.returns-clause-look
returns-clause-look c v n =
    looks_by_key c.self.inside.by_pair.entries c.insert.new.self.entries c.args.ver c.args.lease (Some c.args.how) c.in-Ok.ensures.updates.0 v n
    ∙ ap (λ rows. cond (is_here c.args.ver c.args.lease v n) (Some c.args.how) (standing_at v n rows)) c.self.view_is
