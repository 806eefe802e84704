use Rattle.std.proofs.Common.{◌≡◌, ◌+◌, List, [], ◌∷◌, ◌++◌, drop, ap, sym, subst, ◌∙◌, arith}
use Rattle.std.proofs.lemmas.List.{drop_all, drop_more}
use Rattle.ws_model.specs.declared.event.Event.{Event}
use Rattle.ws_sift.specs.Sifted.{Sifts, is_kept_other}
use Rattle.ws_sift.proofs.Logged.{Next, kept_light, next}
use Rattle.ws_sift.proofs.sift.add_kept.Goals as goal
use Rattle.ws_sift.proofs.sift.add_kept.Goals.{then-is_kept+in_ok-restored+in_ok-push, else-is_kept}

pub loop-event-init : goal.loop-event-init
loop-event-init c h since p r after s = s

pub loop-event-preserved : goal.loop-event-preserved
loop-event-preserved c h since p r after s =
    let t = c.args.t in
    let i = c.loop-event.event-index in
    let event : Event = c.event-item.result in
    let rest : List Event = drop (i + 1) c.args.part.now ++ after in
    let split : drop i c.args.part.now ++ after ≡ event ∷ rest = ap (λ es. es ++ after) (drop_more c.args.part.now i event (omega arith) ∙ ap (λ d. d ∷ drop (i + 1) c.args.part.now) (sym c.event-item.is)) in
    let n : Next h t event rest c.loop-event.events.items = next h t event rest c.loop-event.events.items (subst (λ es. Sifts h t es c.loop-event.events.items) split (c.loop-event.invariant h since p r after s)) in
    let same : c.is_kept.result ≡ is_kept_other h t n.whole = c.is_kept.ensures h since t p ∙ ap (is_kept_other h t) n.logged ∙ kept_light h t n.whole in
    elim c.if-is_kept.branch [
      | then-is_kept+in_ok-restored+in_ok-push w ↦
          let kept = sym same ∙ w.if-is_kept.true in
          subst (Sifts h t rest)
          (sym (ap (λ v. v.items) w.events-is ∙ w.in_ok-push.ensures.items ∙ ap (λ d. c.loop-event.events.items ++ d ∷ []) (w.in_ok-restored.ensures h since c.args.kept.now n.whole p r n.found n.logged kept)))
          (n.taken kept)
      | else-is_kept w ↦ subst (Sifts h t rest) (sym (ap (λ v. v.items) w.events-is)) (n.dropped (sym same ∙ w.if-is_kept.false))
    ]

pub returns : goal.returns
returns c h since p r after s =
    subst (λ es. Sifts h c.args.t es c.loop-event.events.items) (ap (λ es. es ++ after) (drop_all c.loop-event.event-index c.args.part.now (omega arith))) (c.loop-event.invariant h since p r after s)
