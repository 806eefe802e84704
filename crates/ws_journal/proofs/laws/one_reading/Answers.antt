use Rattle.ws_journal.proofs.Once.{reads_once}
use Rattle.ws_journal.proofs.laws.one_reading.Goals as goal

pub returns : goal.returns
returns c = reads_once
