use Rattle.ws_record.proofs.Events.{batch-apart}
use Rattle.ws_record.proofs.batch.batches_apart.Goals as goal

pub returns : goal.returns
returns c = batch-apart
