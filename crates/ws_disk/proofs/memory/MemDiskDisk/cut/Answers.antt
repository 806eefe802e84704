use Rattle.ws_disk.proofs.Moments.{after_cut}
use Rattle.ws_disk.proofs.memory.MemDiskDisk.cut.Goals as goal

pub returns-clause-crash : goal.returns-clause-crash
returns-clause-crash c = after_cut _ _ _ _ c.note.ensures.steps
