use Rattle.std.proofs.Common.{sym, ap, ◌∙◌}
use Rattle.ws_forgotten.specs.Forgotten.{forgotten_ends, with_ends}
use Rattle.ws_forgotten.proofs.OneByOne.{none_left}
use Rattle.ws_forgotten.proofs.counting.newly_forgotten.Goals as goal

pub returns-clause-counted : goal.returns-clause-counted
returns-clause-counted c =
    sym (none_left c.loop-key.totals c.loop-key.invariant.within)
    ∙ ap (λ es. with_ends c.loop-key.totals (forgotten_ends c.args.kept.now es)) (sym c.in-None.ensures.steps.0)
    ∙ c.loop-key.invariant.so_far
