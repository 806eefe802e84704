use Rattle.std.proofs.Common.{◌≡◌, ◌+◌, length, take}
use Rattle.std.specs.List.{sum_by}
use Rattle.ws_record.specs.Text.{capped}
use Rattle.ws_journal.proofs.replace.records_len.Given as goal

abbrev pub invariant-loop-batch : goal.invariant-loop-batch
invariant-loop-batch l = l.sum ≡ capped (sum_by (λ payload. length payload + 37) (take l.batch-index l.batches))
