use Rattle.std.proofs.Common.{◌≡◌, take}
use Rattle.ws_journal.specs.Text.{texts}
use Rattle.ws_journal.proofs.upgrade.batch_texts.Given as goal

abbrev pub invariant-loop-batch : goal.invariant-loop-batch
invariant-loop-batch l = l.written.items ≡ texts (take l.batch-index l.batches)
