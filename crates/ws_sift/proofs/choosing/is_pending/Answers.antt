use Rattle.std.proofs.Common.{ap, ◌∙◌}
use Rattle.std.specs.Prelude.{is_some, ◌==◌}
use Rattle.ws_model.specs.Intents.{pending}
use Rattle.ws_laws.proofs.Follow.{some_found}
use Rattle.ws_core_tables.proofs.Lookups.{is_some-copied}
use Rattle.ws_sift.proofs.choosing.is_pending.Goals as goal

pub returns : goal.returns
returns c h since s =
    c.is_some.ensures
    ∙ is_some-copied c.pending_intent.result
    ∙ ap is_some (c.pending_intent.ensures.stands h since s)
    ∙ some_found (λ i. i.n == c.args.n) (pending h)
