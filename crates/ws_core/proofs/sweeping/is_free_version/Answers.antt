use Rattle.ws_core.proofs.Freed.{version_free}
use Rattle.ws_core.proofs.sweeping.is_free_version.Goals as goal

pub returns : goal.returns
returns c free h t s l = version_free h t c.args.ver c.args.ledger.now s l (c.is_past.ensures.past free h t s l)
