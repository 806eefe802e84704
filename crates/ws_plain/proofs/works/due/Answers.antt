use Rattle.std.proofs.Common.{Bool, ap, ◌∙◌, rules}
use Rattle.std.specs.Prelude.{filter, not}
use Rattle.std.proofs.lemmas.Fn.{filter_same}
use Rattle.ws_model.specs.declared.work.Work.{Work}
use Rattle.ws_model.specs.Due.{is_out}
use Rattle.ws_plain.proofs.works.due.Goals as goal

pub returns : goal.returns
returns c =
    let test : Work → Bool = λ w. not (is_out c.args.out.now w) in
    filter_same _ test _ (λ x b g k. search rules fits 8000) _ _ c.retain.ensures.filtered ∙ ap (filter test) c.in_ok-works.ensures
