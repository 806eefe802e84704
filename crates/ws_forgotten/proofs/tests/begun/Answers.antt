use Rattle.std.proofs.Common.{[], refl, arith}
use Rattle.ws_forgotten.proofs.tests.begun.Goals as goal

pub apply-requires : goal.apply-requires
apply-requires c = record { follows = record { past = []; since = 0; stands = c.empty-tables.ensures.stands; legal = (tt, refl); in_time = omega arith } }
