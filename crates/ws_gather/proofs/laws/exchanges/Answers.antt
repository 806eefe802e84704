use Rattle.ws_gather.proofs.Members.{exchanges}
use Rattle.ws_gather.proofs.laws.exchanges.Goals as goal

pub returns : goal.returns
returns c = exchanges
