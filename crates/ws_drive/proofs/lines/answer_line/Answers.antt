use Rattle.std.proofs.Common.{refl}
use Rattle.std.specs.Fmt.{digits}
use Rattle.ws_drive.proofs.lines.answer_line.Goals as goal

pub returns-in-Ok : goal.returns-in-Ok
unfolding digits
returns-in-Ok c = rw c.in-Ok.is refl
