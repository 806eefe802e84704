use Rattle.std.proofs.Common.{arith}
use Rattle.ws_journal.proofs.Writing.{length-records}
use Rattle.ws_journal.proofs.journal.Journal.replace.Goals as goal

pub switch-requires-clause-room : goal.switch-requires-clause-room
switch-requires-clause-room g c = omega (arith, length-records c.args.batches.now, c.records_len-asked.ensures)

pub switch-requires-clause-tail : goal.switch-requires-clause-tail
switch-requires-clause-tail g c = omega (arith, length-records c.args.batches.now, c.records_len-asked.ensures)
