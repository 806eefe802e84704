use Rattle.std.proofs.Common.{refl}
use Rattle.ws_disk.proofs.Moments.{after_write}
use Rattle.ws_disk.proofs.memory.MemDiskDisk.write_at.Goals as goal

pub returns-clause-crash : goal.returns-clause-crash
returns-clause-crash c = after_write _ _ _ _ _ _ refl c.note.ensures.steps
