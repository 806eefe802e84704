use Rattle.ws_port.specs.Requests.{one_or_none, revocation_answer}
use Rattle.ws_model.specs.Revocation.{revocation}
use Rattle.ws_desk.proofs.Does.{said, unstored}
use Rattle.ws_desk.proofs.Quiet.{serials_unstored}
use Rattle.ws_desk.proofs.calls.DeskPort.revoke.Goals as goal

pub returns-clause-said : goal.returns-clause-said
returns-clause-said c =
    said (λ g t. revocation_answer g t c.args.topic.now c.args.callback.now) c.hub_time-t.result c.args.self.now c.revoke_at.new.self c.revoke_at.result c.revoke_at.ensures.does
    (λ h. serials_unstored h (one_or_none (revocation h c.hub_time-t.result c.args.topic.now c.args.callback.now))) c.hub_time-t.ensures.later

pub returns-clause-unstored : goal.returns-clause-unstored
returns-clause-unstored c =
    λ _. unstored (λ g. revocation_answer g c.hub_time-t.result c.args.topic.now c.args.callback.now) c.hub_time-t.result c.args.self.now c.revoke_at.new.self c.revoke_at.result c.args.self.now.past.events c.revoke_at.ensures.does
    (serials_unstored c.args.self.now.past.events (one_or_none (revocation c.args.self.now.past.events c.hub_time-t.result c.args.topic.now c.args.callback.now))) c.args.self.now.held
