use Rattle.std.proofs.Common.{ap, sym, ◌∙◌}
use Rattle.ws_tries.specs.Rows.{next_pair}
use Rattle.ws_tries.proofs.Keyed.{no_next, one_next}
use Rattle.ws_tries.proofs.held.Held.next_pair.Goals as goal

pub returns-in-Some : goal.returns-in-Some
returns-in-Some c =
    one_next c.args.ver c.args.lease c.self.inside.by_pair.entries (c.in-Some.pair.now, c.in-Some.field-0-1.now) _ (sym (c.range.ensures.between tt) ∙ c.in-Some.ensures.steps)
    ∙ ap (next_pair c.args.ver c.args.lease) c.self.view_is

pub returns-in-None : goal.returns-in-None
returns-in-None c =
    no_next c.args.ver c.args.lease c.self.inside.by_pair.entries (sym (c.range.ensures.between tt) ∙ c.in-None.ensures.steps.0)
    ∙ ap (next_pair c.args.ver c.args.lease) c.self.view_is
