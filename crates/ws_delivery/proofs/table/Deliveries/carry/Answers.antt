use Rattle.ws_delivery.proofs.Carrying.{old_closed}
use Rattle.ws_delivery.proofs.table.Deliveries.carry.Goals as goal

pub returns-clause-look : goal.returns-clause-look
returns-clause-look c v n = old_closed c.args.exp c.args.t c.args.old c.args.new c.args.self.now c.renew.new.self c.close_lease.new.self c.requires.none c.in_ok-number.ensures.look c.close_lease.ensures.look v n
