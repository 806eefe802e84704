use Rattle.std.proofs.Common.{ap, ◌∙◌, rules}
use Rattle.std.specs.Prelude.{filter}
use Rattle.std.proofs.lemmas.Fn.{filter_same}
use Rattle.ws_model.specs.Intents.{is_pending}
use Rattle.ws_plain.specs.Past.{past}
use Rattle.ws_plain.proofs.intents.pending.Goals as goal

pub returns : goal.returns
returns c =
    let test = is_pending (past c.args.events.now) in
    filter_same _ test _ (λ x b g k. search rules) _ _ c.retain.ensures.filtered ∙ ap (filter test) c.in_ok-intents.ensures
