use Rattle.std.proofs.Common.{◌≡◌, not, ◌&&◌, ◌||◌, ap, sym, ◌∙◌, subst}
use Rattle.std.specs.Prelude.{IfSome, false}
use Rattle.ws_order.specs.NextTries.{has, same}
use Rattle.ws_delivery.specs.Indexed.{is_it}
use Rattle.ws_delivery.proofs.FirstPairs.{any_place, has_without}
use Rattle.ws_delivery.proofs.heads.follow.Goals as goal

pub put-requires : goal.put-requires
put-requires c =
    ap (has c.in-Some-after.first) c.take.ensures.left ∙ has_without c.args.before c.in-Some-after.first c.args.heads.now
    ∙ subst (λ o. IfSome o (λ x. (has x c.args.heads.now && not (same c.args.before x)) ≡ false)) c.in-Some-after.is c.requires.new

pub returns-in-Some-after : goal.returns-in-Some-after
returns-in-Some-after c x =
    ap (has x) c.put.ensures ∙ any_place (same x) c.in-Some-after.first c.take.new.self
    ∙ ap (λ z. same x c.in-Some-after.first || z) (ap (has x) c.take.ensures.left ∙ has_without c.args.before x c.args.heads.now)
    ∙ ap (λ o. is_it x o || (has x c.args.heads.now && not (same c.args.before x))) (sym c.in-Some-after.is)

pub returns-in_default-after : goal.returns-in_default-after
returns-in_default-after c x =
    ap (has x) c.take.ensures.left ∙ has_without c.args.before x c.args.heads.now
    ∙ ap (λ o. is_it x o || (has x c.args.heads.now && not (same c.args.before x))) (sym c.in_default-after.is)
