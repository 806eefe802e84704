use Rattle.std.proofs.Common.{ap, ◌∙◌, rules}
use Rattle.std.specs.Prelude.{filter}
use Rattle.std.proofs.lemmas.Fn.{filter_same}
use Rattle.ws_model.specs.Versions.{is_owed_fetch}
use Rattle.ws_plain.specs.Past.{past}
use Rattle.ws_plain.proofs.versions.fetches.Goals as goal

pub returns : goal.returns
returns c =
    let test = is_owed_fetch (past c.args.events.now) in
    filter_same _ test _ (λ x b g k. search rules fits 8000) _ _ c.retain.ensures.filtered ∙ ap (filter test) c.in_ok-pings.ensures
