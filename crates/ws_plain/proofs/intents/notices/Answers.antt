use Rattle.std.proofs.Common.{[], ◌∷◌, ◌++◌, sym, ap, ◌∙◌, arith}
use Rattle.ws_model.specs.Intents.{is_owed_notice}
use Rattle.ws_plain.specs.Past.{past}
use Rattle.ws_plain.proofs.Filters.{filter_left, filter_taken}
use Rattle.ws_plain.proofs.intents.notices.Goals as goal
use Rattle.ws_plain.proofs.intents.notices.Goals.{then-is_owed_notice_number+in_ok-copy+in_ok-push, else-is_owed_notice_number}

pub loop-intent-preserved : goal.loop-intent-preserved
loop-intent-preserved c =
    let test = is_owed_notice (past c.args.events.now) in
    elim c.if-is_owed_notice_number.branch [
      | then-is_owed_notice_number+in_ok-copy+in_ok-push w ↦
          filter_taken test _ _ c.intent-item.result c.loop-intent.owed.items _ (omega arith) c.intent-item.is
          (sym c.is_owed_notice_number.ensures ∙ w.if-is_owed_notice_number.true) c.loop-intent.invariant
          (ap (λ v. v.items) w.owed-is ∙ w.in_ok-push.ensures.items ∙ ap (λ y. c.loop-intent.owed.items ++ y ∷ []) w.in_ok-copy.ensures)
      | else-is_owed_notice_number w ↦
          filter_left test _ _ c.intent-item.result c.loop-intent.owed.items _ (omega arith) c.intent-item.is
          (sym c.is_owed_notice_number.ensures ∙ w.if-is_owed_notice_number.false) c.loop-intent.invariant (ap (λ v. v.items) w.owed-is)
    ]
