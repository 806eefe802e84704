use Rattle.std.proofs.Common.{sym, subst}
use Rattle.ws_ledger.specs.Rows.{Rows as LedgerRows}
use Rattle.ws_core.specs.Stands.{StandsFor}
use Rattle.ws_core.proofs.Expiring.{all_gone, one_more}
use Rattle.ws_core.proofs.passing.let_go.Goals as goal

pub loop-lease-preserved : goal.loop-lease-preserved
loop-lease-preserved c =
    one_more c.args.t c.in-Some.lease c.args.ledger.now c.args.tries.now c.loop-lease.ledger c.loop-lease.tries c.take_expired.new.self c.give_back_pairs.new.tries c.loop-lease.invariant
    c.in-Some.ensures.stands c.in-Some.ensures.taken c.in-Some.ensures.fates c.give_back_pairs.ensures

pub returns-clause-stands : goal.returns-clause-stands
returns-clause-stands c h log renewals s l =
    subst (λ (r : LedgerRows). StandsFor h c.args.t (record { ledger = r; log = log; renewals = renewals; tries = c.loop-lease.tries })) (sym c.in_default.ensures.taken.0) (c.loop-lease.invariant.stands h log renewals s l)

pub returns-clause-gone : goal.returns-clause-gone
returns-clause-gone c = all_gone c.args.t c.args.ledger.now c.args.tries.now c.loop-lease.ledger c.loop-lease.tries c.loop-lease.invariant c.in_default.ensures.taken.1
