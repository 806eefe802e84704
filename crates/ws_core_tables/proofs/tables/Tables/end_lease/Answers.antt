use Rattle.std.proofs.Common.{sym, subst}
use Rattle.std.specs.Prelude.{MatchOption}
use Rattle.ws_lease.specs.Stands.{StandsFor as LeasesStand, EndsLease, LeavesLeases}
use Rattle.ws_lease.proofs.Standing.{stands_on}
use Rattle.ws_core_tables.specs.Rows.{Rows}
use Rattle.ws_core_tables.proofs.tables.Tables.end_lease.Goals as goal

pub returns-in-Some-clause-leases : goal.returns-in-Some-clause-leases
returns-in-Some-clause-leases c h e since s k l m =
    c.end.ensures.stands h e since (subst (λ (r : Rows). LeasesStand h since r.leases) (sym c.self.view_is) s) k l
    (subst (λ o. MatchOption o (LeavesLeases e h) (λ q. EndsLease e h q c.args.cause)) c.in-Some.is m)

pub returns-in_default-clause-leases : goal.returns-in_default-clause-leases
returns-in_default-clause-leases c h e since s k l m =
    stands_on c.args.self.now.leases h e since s k l
    (subst (λ o. MatchOption o (LeavesLeases e h) (λ q. EndsLease e h q c.args.cause)) c.in_default.is m)
