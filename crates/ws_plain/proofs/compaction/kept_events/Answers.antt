use Rattle.std.proofs.Common.{Bool, [], ◌∷◌, ◌++◌, sym, ap, ◌∙◌, arith}
use Rattle.ws_model.specs.declared.event.Event.{Event}
use Rattle.ws_plain.specs.Kept.{keeps_by}
use Rattle.ws_plain.specs.Told.{told}
use Rattle.ws_plain.proofs.Filters.{filter_left, filter_taken}
use Rattle.ws_plain.proofs.compaction.kept_events.Goals as goal
use Rattle.ws_plain.proofs.compaction.kept_events.Goals.{then-keeps+in_ok-copy_event+in_ok-push, else-keeps}

pub loop-event-preserved : goal.loop-event-preserved
loop-event-preserved c =
    let test : Event → Bool = λ e. keeps_by (told c.args.findings.now) e e.what in
    elim c.if-keeps.branch [
      | then-keeps+in_ok-copy_event+in_ok-push w ↦
          filter_taken test c.args.events.now c.loop-event.event-index c.event-item.result c.loop-event.kept.items c.if-keeps.kept.items (omega arith) c.event-item.is
          (sym c.keeps.ensures ∙ w.if-keeps.true) c.loop-event.invariant
          (ap (λ v. v.items) w.kept-is ∙ w.in_ok-push.ensures.items ∙ ap (λ y. c.loop-event.kept.items ++ y ∷ []) w.in_ok-copy_event.ensures)
      | else-keeps w ↦
          filter_left test c.args.events.now c.loop-event.event-index c.event-item.result c.loop-event.kept.items c.if-keeps.kept.items (omega arith) c.event-item.is
          (sym c.keeps.ensures ∙ w.if-keeps.false) c.loop-event.invariant (ap (λ v. v.items) w.kept-is)
    ]
