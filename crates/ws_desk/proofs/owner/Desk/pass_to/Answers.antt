use Rattle.ws_desk.proofs.Later.{holds_later}
use Rattle.ws_desk.proofs.owner.Desk.pass_to.Goals as goal

pub invariant_of-self : goal.invariant_of-self
invariant_of-self c = record { bounded = c.requires.bounded; held = holds_later c.args.self.now.core c.args.self.now.used c.args.t c.args.self.now.count c.args.self.now.past.events c.args.self.now.held c.requires.later }

pub returns-clause-keeps : goal.returns-clause-keeps
returns-clause-keeps c h seen = holds_later c.args.self.now.core c.args.self.now.used c.args.t c.args.self.now.count h seen c.requires.later
