use Rattle.std.proofs.Common.{◌≡◌, ◌∷◌, ◌++◌, true, false, ap, sym, ◌∙◌, subst}
use Rattle.std.specs.List.{AllByRecursion}
use Rattle.ws_order.specs.Orders.{Rises}
use Rattle.ws_order.proofs.Sides.{splits_behind, splits_front}
use Rattle.ws_order.proofs.order.Order.+split.Goals as goal

pub fork-requires : goal.fork-requires
fork-requires g t c =
    let parts = splits_behind g.met.K.Key.laws c.args.place.now c.in-Some.field-0.top c.args.self c.in-Some.field-0.left.value c.in-Some.field-0.right.value c.split-low.result.0 c.split-low.result.1 c.in-Some.ensures.is c.in-Some.ensures.rising (sym c.unboxed-behind.ensures ∙ c.split-low.ensures.all) (sym c.is_before.ensures ∙ c.if-is_before.true) c.split-low.ensures.low in
    subst (λ z. Rises g.K.Key.before (c.in-Some.field-0.left.value ++ c.in-Some.field-0.top ∷ z)) (sym c.boxed.ensures) parts.rising

pub fork-requires-else-is_before : goal.fork-requires-else-is_before
fork-requires-else-is_before g t c =
    let parts = splits_front g.met.K.Key.laws c.args.place.now c.in-Some.field-0.top c.args.self c.in-Some.field-0.left.value c.in-Some.field-0.right.value c.split-low-else-is_before.result.0 c.split-low-else-is_before.result.1 c.in-Some.ensures.is c.in-Some.ensures.rising (sym c.unboxed-front.ensures ∙ c.split-low-else-is_before.ensures.all) (sym c.is_before.ensures ∙ c.if-is_before.false) c.split-low-else-is_before.ensures.high in
    subst (λ z. Rises g.K.Key.before (z ++ c.in-Some.field-0.top ∷ c.in-Some.field-0.right.value)) (sym c.boxed-else-is_before.ensures) parts.rising

pub returns-then-is_before-clause-low : goal.returns-then-is_before-clause-low
returns-then-is_before-clause-low g t c =
    let parts = splits_behind g.met.K.Key.laws c.args.place.now c.in-Some.field-0.top c.args.self c.in-Some.field-0.left.value c.in-Some.field-0.right.value c.split-low.result.0 c.split-low.result.1 c.in-Some.ensures.is c.in-Some.ensures.rising (sym c.unboxed-behind.ensures ∙ c.split-low.ensures.all) (sym c.is_before.ensures ∙ c.if-is_before.true) c.split-low.ensures.low in
    subst (AllByRecursion (λ x. g.K.Key.before x c.args.place.now ≡ true)) (sym (c.fork.ensures ∙ ap (λ z. c.in-Some.field-0.left.value ++ c.in-Some.field-0.top ∷ z) c.boxed.ensures)) parts.all_low

pub returns-else-is_before-clause-high : goal.returns-else-is_before-clause-high
returns-else-is_before-clause-high g t c =
    let parts = splits_front g.met.K.Key.laws c.args.place.now c.in-Some.field-0.top c.args.self c.in-Some.field-0.left.value c.in-Some.field-0.right.value c.split-low-else-is_before.result.0 c.split-low-else-is_before.result.1 c.in-Some.ensures.is c.in-Some.ensures.rising (sym c.unboxed-front.ensures ∙ c.split-low-else-is_before.ensures.all) (sym c.is_before.ensures ∙ c.if-is_before.false) c.split-low-else-is_before.ensures.high in
    subst (AllByRecursion (λ x. g.K.Key.before x c.args.place.now ≡ false)) (sym (c.fork-else-is_before.ensures ∙ ap (λ z. z ++ c.in-Some.field-0.top ∷ c.in-Some.field-0.right.value) c.boxed-else-is_before.ensures)) parts.all_high
