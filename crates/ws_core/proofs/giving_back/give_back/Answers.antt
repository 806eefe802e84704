use Rattle.std.proofs.Common.{sym, subst}
use Rattle.ws_core.specs.declared.giving_back.Touched.{Touched}
use Rattle.ws_core.specs.GivenBack.{GivesBack, is_meant}
use Rattle.ws_core.proofs.giving_back.give_back.Goals as goal

pub returns-in-Version : goal.returns-in-Version
returns-in-Version c = subst (λ (t : Touched). GivesBack (is_meant t c.args.tries.now) c.args.ledger.now c.args.tries.now c.give_back_version.new.tries) (sym c.in-Version.is) c.give_back_version.ensures.gives

pub returns-in-Lease : goal.returns-in-Lease
returns-in-Lease c = subst (λ (t : Touched). GivesBack (is_meant t c.args.tries.now) c.args.ledger.now c.args.tries.now c.give_back_each.new.tries) (sym c.in-Lease.is) c.give_back_each.ensures
