use Rattle.std.proofs.Common.{Bool, ap, ◌∙◌, rules}
use Rattle.std.specs.Prelude.{filter}
use Rattle.std.proofs.lemmas.Fn.{filter_same}
use Rattle.ws_model.specs.Fate.{Pair, fate, is_owed}
use Rattle.ws_plain.specs.Past.{past}
use Rattle.ws_plain.proofs.pairs.owed.Goals as goal

pub returns : goal.returns
returns c =
    let test : Pair → Bool = λ p. is_owed (fate (past c.args.events.now) p c.args.t) in
    filter_same _ test _ (λ x b g k. search rules fits 8000) _ _ c.retain.ensures.filtered ∙ ap (filter test) c.in_ok-pairs.ensures
