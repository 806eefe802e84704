use Rattle.std.proofs.Common.{sym}
use Rattle.ws_fate.specs.Stands.{later}
use Rattle.ws_forgotten.proofs.kept_pairs.later.Goals as goal

pub returns-then-is_owed : goal.returns-then-is_owed
returns-then-is_owed c = record { stands = λ h since tables le j. later (c.if-is_owed.ensures.stands h since tables le j) (sym c.in-Open.is j) }

pub returns-else-is_owed : goal.returns-else-is_owed
returns-else-is_owed c = record { stands = λ h since tables le j. later (c.if-is_owed.ensures.stands h since tables le j) (sym c.in-Open.is j) }
