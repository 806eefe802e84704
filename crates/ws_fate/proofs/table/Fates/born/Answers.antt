use Rattle.std.proofs.Common.{ap, ◌∙◌, arith}
use Rattle.std.specs.Prelude.{cond, Some}
use Rattle.ws_fate.specs.declared.totals.Standing.TheVariants.{Open}
use Rattle.ws_fate.specs.Counts.{is_open_of}
use Rattle.ws_fate.specs.Rows.{is_here, standing_at}
use Rattle.ws_fate.proofs.Counting.{counted_more, few_pass}
use Rattle.ws_fate.proofs.Keyed.{looks_by_key}
use Rattle.ws_fate.proofs.table.Fates.born.Goals as goal

pub add-requires : goal.add-requires
add-requires c =
    let k = c.self.invariant c.args.ver in
    let l = few_pass (is_open_of c.args.ver) c.self.inside.by_pair.entries in
    let m = c.len.ensures.len in
    let s = c.len.ensures.small in
    record { few = omega arith }

pub invariant_of-self-in-Ok : goal.invariant_of-self-in-Ok
invariant_of-self-in-Ok c =
    counted_more c.args.ver c.args.lease c.self.inside.by_pair.entries c.insert.new.self.entries c.self.inside.open_counts c.add.new.self c.self.invariant (ap (standing_at c.args.ver c.args.lease) c.self.view_is ∙ c.requires.new) c.in-Ok.ensures.entries c.in_ok-add.ensures.more

pub returns-in-Ok-clause-look : goal.returns-in-Ok-clause-look
returns-in-Ok-clause-look c v n =
    looks_by_key c.self.inside.by_pair.entries c.insert.new.self.entries c.args.ver c.args.lease (Some Open) c.in-Ok.ensures.updates.0 v n
    ∙ ap (λ rows. cond (is_here c.args.ver c.args.lease v n) (Some Open) (standing_at v n rows)) c.self.view_is
