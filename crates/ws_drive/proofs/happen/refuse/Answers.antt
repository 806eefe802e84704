use Rattle.std.proofs.Common.{refl, inl}
use Rattle.std.specs.Fmt.{digits}
use Rattle.ws_drive.proofs.happen.refuse.Goals as goal

pub returns-in-NoMemory : goal.returns-in-NoMemory
unfolding digits
returns-in-NoMemory c = inl refl

pub returns-in-Err : goal.returns-in-Err
unfolding digits
returns-in-Err c = inl refl
