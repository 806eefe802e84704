use Rattle.ws_port.specs.Requests.{answer}
use Rattle.ws_desk.proofs.Does.{said, unstored}
use Rattle.ws_desk.proofs.Quiet.{answers_unstored}
use Rattle.ws_desk.proofs.calls.DeskPort.ask.Goals as goal

pub returns-clause-said : goal.returns-clause-said
returns-clause-said c =
    said (λ g t. answer g t c.args.ask.now c.args.self.now.settings.policy) c.hub_time-t.result c.args.self.now c.ask_at.new.self c.ask_at.result c.ask_at.ensures.does
    (λ h. answers_unstored h c.hub_time-t.result c.args.ask.now c.args.self.now.settings.policy) c.hub_time-t.ensures.later

pub returns-clause-unstored : goal.returns-clause-unstored
returns-clause-unstored c =
    λ _. unstored (λ g. answer g c.hub_time-t.result c.args.ask.now c.args.self.now.settings.policy) c.hub_time-t.result c.args.self.now c.ask_at.new.self c.ask_at.result c.args.self.now.past.events c.ask_at.ensures.does
    (answers_unstored c.args.self.now.past.events c.hub_time-t.result c.args.ask.now c.args.self.now.settings.policy) c.args.self.now.held
