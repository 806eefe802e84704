use Rattle.std.proofs.Common.{subst}
use Rattle.ws_model.specs.declared.event.What.{What}
use Rattle.ws_core.specs.Stands.{CanFollow}
use Rattle.ws_core.proofs.Following.{history_after}
use Rattle.check_core.proofs.applied.apply_pushed.Goals as goal

pub returns : goal.returns
returns c =
    let e = c.args.event.now in
    history_after _ _ _
    (subst (λ (w : What). CanFollow c.args.core.now (record { serial = e.serial; t = e.t; what = w })) c.requires.kind c.requires.follows)
    c.apply_pushed.ensures.stands
