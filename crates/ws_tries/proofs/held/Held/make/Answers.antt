use Rattle.std.proofs.Common.{ap, sym, ◌∙◌}
use Rattle.std.specs.Prelude.{cond, is_some, Some}
use Rattle.ws_tries.specs.Rows.{is_here, tries_at}
use Rattle.ws_tries.proofs.Keyed.{looks_by_key}
use Rattle.ws_tries.proofs.Roomed.{roomed_after, roomed_undone}
use Rattle.ws_tries.proofs.held.Held.make.Goals as goal

pub invariant_of-self-in-Ok : goal.invariant_of-self-in-Ok
invariant_of-self-in-Ok c =
    roomed_after c.args.ver c.args.lease c.self.inside.by_lease c.insert.new.self c.self.inside.by_pair.entries c.insert-2.new.self.entries (Some c.in_ok-room.room) c.self.invariant c.in_ok-insert.ensures.updates.0
    (looks_by_key c.self.inside.by_pair.entries c.insert-2.new.self.entries c.args.ver c.args.lease (Some c.in_ok-room.room) c.in-Ok.ensures.updates.0)

pub invariant_of-self-in-Err : goal.invariant_of-self-in-Err
invariant_of-self-in-Err c v n =
    roomed_undone c.args.ver c.args.lease c.self.inside.by_lease c.insert.new.self c.remove.new.self c.self.inside.by_pair.entries c.self.invariant c.in-Err.ensures.absent c.in_ok-insert.ensures.updates.0 c.remove.ensures.updates.0 v n
    ∙ ap (λ rows. is_some (tries_at v n rows)) (sym c.in-Err.ensures.err)

pub returns-in-Ok-clause-look : goal.returns-in-Ok-clause-look
returns-in-Ok-clause-look c v n =
    looks_by_key c.self.inside.by_pair.entries c.insert-2.new.self.entries c.args.ver c.args.lease (Some c.in_ok-room.room) c.in-Ok.ensures.updates.0 v n
    ∙ (λ j. cond (is_here c.args.ver c.args.lease v n) (Some (c.in_ok-room.ensures j)) (tries_at v n (c.self.view_is j)))
