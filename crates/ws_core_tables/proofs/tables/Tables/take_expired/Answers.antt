use Rattle.std.proofs.Common.{◌≡◌, ◌<◌, ◌∙◌, ap, sym, subst, length}
use Rattle.ws_lease.specs.Table.{Rows as LeaseRows, without}
use Rattle.ws_core_tables.specs.Rows.{Rows}
use Rattle.ws_core_tables.proofs.Expired.{shorter}
use Rattle.ws_core_tables.proofs.tables.Tables.take_expired.Goals as goal

pub returns-clause-fewer : goal.returns-clause-fewer
returns-clause-fewer c =
    let value = c.in_ok-lease.ensures.value in
    let same = ap (λ (r : Rows). r.leases) c.self.view_is in
    subst (λ (r : LeaseRows). length c.take_expired.new.self < length r) same
    (subst (λ (r : LeaseRows). length r < length c.self.inside.leases) (sym value.0) (shorter c.in_ok-lease.lease.intent.n c.in_ok-lease.lease c.self.inside.leases value.1.held))
