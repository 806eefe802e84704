use Rattle.ws_delivery.proofs.Carrying.{IsCarried, number_left}
use Rattle.ws_delivery.proofs.table.Deliveries.renew.Given as goal

abbrev pub invariant-loop-next : goal.invariant-loop-next
invariant-loop-next l = IsCarried l.exp l.t l.old l.new l.fn.self l.self l.next

abbrev pub decreases-loop-next : goal.decreases-loop-next
decreases-loop-next l = number_left l.old l.fn.self l.next
