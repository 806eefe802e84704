use Rattle.std.proofs.Common.{[], refl, ap, ◌∙◌}
use Rattle.ws_drive.specs.AccountText.{account_text}
use Rattle.ws_drive.specs.World.{with_events}
use Rattle.ws_drive.proofs.Worlds.{accounted, if_ok}
use Rattle.ws_drive.proofs.happen.sum.Goals as goal

pub returns-clause-sums : goal.returns-clause-sums
returns-clause-sums g c w stands =
    let p = accounted g.P.Port.seen g.P.Port.settings g.P.Port.moment g.P.Port.sole c.requires.sole c.args.clock c.args.port.now c.account-account.new.self w stands
    (g.P.Port.timely c.requires.sole c.args.port.now w.history stands.has_seen) c.account-account.ensures.settings
    c.account-account.result (c.account-account.ensures.said w.history stands.has_seen) c.account-account.ensures.time in
    if_ok c.account_text.result c.account_text.ensures
    (λ text is. (with_events [] w, (is ∙ ap account_text p.0, refl), p.1))
