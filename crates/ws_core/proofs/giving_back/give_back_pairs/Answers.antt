use Rattle.std.proofs.Common.{sym, subst}
use Rattle.ws_core.specs.declared.giving_back.Touched.{Touched}
use Rattle.ws_core.specs.GivenBack.{GivesBackPairs}
use Rattle.ws_core.proofs.giving_back.give_back_pairs.Goals as goal

pub returns-in-Lease : goal.returns-in-Lease
returns-in-Lease c = subst (λ (t : Touched). GivesBackPairs t c.args.t c.args.ledger.now c.args.tries.now c.give_back_lease.new.tries) (sym c.in-Lease.is) c.give_back_lease.ensures
