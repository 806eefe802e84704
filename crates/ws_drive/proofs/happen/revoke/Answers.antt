use Rattle.ws_port.specs.Requests.{revocation_answer}
use Rattle.ws_drive.proofs.Worlds.{if_ok, tells}
use Rattle.ws_drive.proofs.happen.revoke.Goals as goal

pub returns-clause-revokes : goal.returns-clause-revokes
returns-clause-revokes g c w stands =
    let p = tells g.P.Port.seen g.P.Port.settings g.P.Port.moment g.P.Port.sole c.requires.sole c.args.clock c.args.port.now c.revoke-said.new.self w stands
    (g.P.Port.timely c.requires.sole c.args.port.now w.history stands.has_seen) c.revoke-said.ensures.settings
    (λ h t. revocation_answer h t c.args.topic.now c.args.callback.now) c.revoke-said.result
    (c.revoke-said.ensures.said w.history stands.has_seen) c.revoke-said.ensures.time (c.revoke-said.ensures.unstored c.requires.unstored) in
    if_ok c.revoke_line.result c.revoke_line.ensures
    (λ line is. (p.0, record { said = c.revoke-said.result; line = is; tells = p.1 }, p.2))
