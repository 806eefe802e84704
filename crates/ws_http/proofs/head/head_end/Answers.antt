use Rattle.std.proofs.Common.{Some, None, refl}
use Rattle.ws_http.proofs.head.head_end.Goals as goal

pub returns-in-Some-clause-ends : goal.returns-in-Some-clause-ends
returns-in-Some-clause-ends c = (Some c.in-Some.at, c.in-Some.ensures, refl)

pub returns-in-None-clause-ends : goal.returns-in-None-clause-ends
returns-in-None-clause-ends c = (None, c.in-None.ensures, refl)
