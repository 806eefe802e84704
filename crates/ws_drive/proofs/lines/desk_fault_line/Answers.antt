use Rattle.std.proofs.Common.{refl}
use Rattle.std.specs.Fmt.{digits}
use Rattle.ws_drive.proofs.lines.desk_fault_line.Goals as goal

pub returns-in-Disk : goal.returns-in-Disk
unfolding digits
returns-in-Disk c = rw c.in-Disk.is refl

pub returns-in-NoMemory : goal.returns-in-NoMemory
unfolding digits
returns-in-NoMemory c = rw c.in-NoMemory.is refl
