use Rattle.std.proofs.Common.{Bool, [], ◌∷◌, ◌++◌, sym, ap, ◌∙◌, arith}
use Rattle.std.specs.Prelude.{◌&&◌, nat_lt, not}
use Rattle.std.specs.List.{list_any}
use Rattle.ws_model.specs.declared.event.Intent.{Intent}
use Rattle.ws_model.specs.Intents.{same_pair}
use Rattle.ws_plain.proofs.Filters.{filter_left, filter_taken}
use Rattle.ws_plain.proofs.works.firsts.Goals as goal
use Rattle.ws_plain.proofs.works.firsts.Goals.{then-is_first+in_ok-copy+in_ok-push, else-is_first}

pub loop-intent-preserved : goal.loop-intent-preserved
loop-intent-preserved c =
    let test : Intent → Bool = λ i. not (list_any (λ j. nat_lt j.n i.n && same_pair i j) c.args.pending.now) in
    elim c.if-is_first.branch [
      | then-is_first+in_ok-copy+in_ok-push w ↦
          filter_taken test _ _ c.intent-item.result c.loop-intent.firsts.items _ (omega arith) c.intent-item.is
          (sym c.is_first.ensures ∙ w.if-is_first.true) c.loop-intent.invariant
          (ap (λ v. v.items) w.firsts-is ∙ w.in_ok-push.ensures.items ∙ ap (λ y. c.loop-intent.firsts.items ++ y ∷ []) w.in_ok-copy.ensures)
      | else-is_first w ↦
          filter_left test _ _ c.intent-item.result c.loop-intent.firsts.items _ (omega arith) c.intent-item.is
          (sym c.is_first.ensures ∙ w.if-is_first.false) c.loop-intent.invariant (ap (λ v. v.items) w.firsts-is)
    ]
