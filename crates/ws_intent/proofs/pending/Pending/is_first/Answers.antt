use Rattle.std.proofs.Common.{ap, ◌∙◌}
use Rattle.ws_intent.specs.Index.{has_in}
use Rattle.ws_intent.specs.Rows.{is_first_number}
use Rattle.ws_intent.proofs.Firsts.{first_is}
use Rattle.ws_intent.proofs.pending.Pending.is_first.Goals as goal

pub returns-clause-first : goal.returns-clause-first
returns-clause-first c =
    c.contains.ensures
    ∙ first_is c.self.inside.by_number.entries c.self.invariant.rows (has_in c.self.inside.by_pair) c.self.inside.firsts c.self.invariant.tracked c.args.n
    ∙ ap (is_first_number c.args.n) c.self.view_is
