use Rattle.ws_disk.proofs.Moments.{after_sync, only_after_sync}
use Rattle.ws_disk.proofs.memory.MemDiskDisk.sync.Goals as goal

pub returns-clause-crash : goal.returns-clause-crash
returns-clause-crash c = after_sync _ _ _ c.note.ensures.steps

pub returns-clause-durable : goal.returns-clause-durable
returns-clause-durable c = only_after_sync _ _ _ _ c.args.self.now.held c.note.ensures.steps
