use Rattle.std.proofs.Common.{◌≤◌, sym, subst, ◌∙◌}
use Rattle.ws_model.specs.Moment.{last_time}
use Rattle.ws_core_tables.specs.Stands.{StandsFor as TablesStand}
use Rattle.ws_kept.proofs.Replaced.{free_old}
use Rattle.ws_core.proofs.Freed.{itself_le, not_first}
use Rattle.ws_core.proofs.sweeping.is_free_renewal.Goals as goal

pub returns-then-is_free_lease : goal.returns-then-is_free_lease
returns-then-is_free_lease c free h held in_list = c.is_free_lease.ensures c.if-is_free_lease.true h held

pub returns-then-is_over : goal.returns-then-is_over
returns-then-is_over c free h held in_list =
    let tables = subst (TablesStand h c.args.t) (sym c.tables.ensures) held.stands.tables in
    let begun : last_time h ≤ c.args.t = held.stands.tables.leases.begun in
    free_old h c.args.t held.legal begun c.args.renewal.now in_list (c.is_free_lease-then-is_over.ensures free h held)
    (not_first h c.args.t c.args.renewal.now.replaced.n (sym (c.is_over.ensures.stands h c.args.t tables held.legal (itself_le c.args.t)) ∙ c.if-is_over.true))
