use Rattle.std.proofs.Common.{◌∷◌, ◌++◌, ap, sym, ◌∙◌, subst}
use Rattle.ws_order.specs.Orders.{Rises}
use Rattle.ws_order.proofs.Sides.{placed_on_top}
use Rattle.ws_order.proofs.order.Order.with_on_top.Goals as goal

pub fork-requires : goal.fork-requires
fork-requires g c =
    let all = c.split-low.ensures.all in
    let new = placed_on_top g.met.K.Key.laws c.args.new c.args.self c.split-low.result.0 c.split-low.result.1 all (subst (Rises g.K.Key.before) (sym all) c.split-low.ensures.rising) c.requires c.split-low.ensures.low c.split-low.ensures.high in
    subst (λ z. Rises g.K.Key.before (z ++ c.args.new ∷ c.boxed-2.result.value)) (sym c.boxed.ensures) (subst (λ z. Rises g.K.Key.before (c.split-low.result.0 ++ c.args.new ∷ z)) (sym c.boxed-2.ensures) new.rising)

pub returns : goal.returns
returns g c =
    let all = c.split-low.ensures.all in
    let new = placed_on_top g.met.K.Key.laws c.args.new c.args.self c.split-low.result.0 c.split-low.result.1 all (subst (Rises g.K.Key.before) (sym all) c.split-low.ensures.rising) c.requires c.split-low.ensures.low c.split-low.ensures.high in
    c.fork.ensures ∙ ap (λ z. z ++ c.args.new ∷ c.boxed-2.result.value) c.boxed.ensures ∙ ap (λ z. c.split-low.result.0 ++ c.args.new ∷ z) c.boxed-2.ensures ∙ new.is
