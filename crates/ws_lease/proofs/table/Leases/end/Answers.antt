use Rattle.ws_lease.proofs.Standing.{end_stands}
use Rattle.ws_lease.proofs.table.Leases.end.Goals as goal

pub returns-clause-stands : goal.returns-clause-stands
returns-clause-stands c = end_stands c.args.self.now c.take.new.self c.args.n c.args.cause c.requires.cause c.take.ensures.looks
