use Rattle.ws_core.proofs.Walking.{rooms_go, rooms_stay}
use Rattle.ws_core.proofs.giving_back.give_back_lease.Goals as goal

pub returns-then-is_without_heirs : goal.returns-then-is_without_heirs
returns-then-is_without_heirs c =
    rooms_go c.args.lease c.args.t c.args.ledger.now c.args.tries.now c.give_back_lease.new.self c.give_back_lease.ensures.look (c.is_without_heirs.ensures.over c.if-is_without_heirs.true) (c.is_without_heirs.ensures.none c.if-is_without_heirs.true)

pub returns-else-is_without_heirs : goal.returns-else-is_without_heirs
returns-else-is_without_heirs c = rooms_stay c.args.lease c.args.t c.args.ledger.now c.args.tries.now (c.is_without_heirs.ensures.heir c.if-is_without_heirs.false)
