use Rattle.ws_disk.proofs.Moments.{after_idle}
use Rattle.ws_disk.proofs.memory.MemDisk.rest.Goals as goal

pub returns-then-not-is_full-clause-calm : goal.returns-then-not-is_full-clause-calm
returns-then-not-is_full-clause-calm c = after_idle _ _ _ c.note.ensures.steps
