use Rattle.std.proofs.Common.{Bool, ap, ◌∙◌, rules}
use Rattle.std.specs.Prelude.{filter}
use Rattle.std.proofs.lemmas.Fn.{filter_same}
use Rattle.ws_model.specs.declared.event.Version.{Version}
use Rattle.ws_model.specs.Versions.{is_version, latest_of}
use Rattle.ws_plain.specs.Past.{past}
use Rattle.ws_plain.proofs.versions.latest.Goals as goal

pub returns : goal.returns
returns c =
    let test : Version → Bool = λ v. is_version v.ver (latest_of v.topic (past c.args.events.now)) in
    filter_same _ test _ (λ x b g k. search rules fits 8000) _ _ c.retain.ensures.filtered ∙ ap (filter test) c.in_ok-versions.ensures
