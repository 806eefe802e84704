use Rattle.ws_core.proofs.Freed.{lease_free}
use Rattle.ws_core.proofs.sweeping.is_free_lease.Goals as goal

pub returns : goal.returns
returns c free h held = lease_free h c.args.t c.args.lease c.args.ledger.now c.args.tries.now held (c.is_without_heirs.ensures.over free) (c.is_without_heirs.ensures.none free)
