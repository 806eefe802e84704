use Rattle.std.proofs.Common.{◌≤◌, sym, arith}
use Rattle.ws_intent.proofs.Firsts.{if_some}
use Rattle.ws_lease.specs.Table.{live_at}
use Rattle.ws_core_tables.proofs.births.open_one.Goals as goal

pub overflow_add-exp : goal.overflow_add-exp
overflow_add-exp c =
    let b = if_some _ (live_at c.args.n c.args.t c.args.leases.now) c.in-Some.lease.now (sym c.in-Some.ensures.value) c.requires.bearer in
    let s : c.in-Some.lease.now.sent ≤ c.args.t = b.0 in
    omega arith
