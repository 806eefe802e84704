use Rattle.std.proofs.Common.{◌∙◌}
use Rattle.std.specs.Prelude.{cond, None}
use Rattle.ws_tries.specs.Rows.{is_here, tries_at}
use Rattle.ws_tries.proofs.Keyed.{looks_by_key}
use Rattle.ws_tries.proofs.Roomed.{roomed_after}
use Rattle.ws_tries.proofs.held.Held.give_back.Goals as goal

pub invariant_of-self : goal.invariant_of-self
invariant_of-self c =
    roomed_after c.args.ver c.args.lease c.self.inside.by_lease c.remove-2.new.self c.self.inside.by_pair.entries c.remove.new.self.entries None c.self.invariant c.remove-2.ensures.updates.0
    (looks_by_key c.self.inside.by_pair.entries c.remove.new.self.entries c.args.ver c.args.lease None c.remove.ensures.updates.0)

pub returns-clause-look : goal.returns-clause-look
returns-clause-look c v n =
    looks_by_key c.self.inside.by_pair.entries c.remove.new.self.entries c.args.ver c.args.lease None c.remove.ensures.updates.0 v n
    ∙ (λ j. cond (is_here c.args.ver c.args.lease v n) None (tries_at v n (c.self.view_is j)))
