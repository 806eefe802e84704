use Rattle.ws_compaction.proofs.Lawful.{keep_is_legal}
use Rattle.ws_compaction.proofs.compaction.keep_is_legal.Goals as goal

pub returns : goal.returns
returns c = keep_is_legal
