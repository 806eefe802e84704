use Rattle.std.proofs.Common.{subst}
use Rattle.ws_order.specs.Orders.{Rises}
use Rattle.ws_order.proofs.order.Order.first.Goals as goal

pub returns-clause-rising : goal.returns-clause-rising
returns-clause-rising g c = subst (Rises g.K.Key.before) c.self.view_is c.self.invariant
