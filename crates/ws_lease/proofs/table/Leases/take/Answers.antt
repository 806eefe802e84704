use Rattle.std.proofs.Common.{ap, sym, ◌∙◌, cond, None, false, ◌&&◌}
use Rattle.std.specs.Prelude.{◌==◌}
use Rattle.ws_lease.specs.Index.{pair_at, topic_end_at}
use Rattle.ws_lease.specs.Indexed.{has_end}
use Rattle.ws_lease.specs.Table.{lease_at}
use Rattle.ws_lease.proofs.Ends.{at_pair}
use Rattle.ws_lease.proofs.IndexedRows.{indexed_without, is_at_number}
use Rattle.ws_lease.proofs.table.Leases.take.Goals as goal

pub invariant_of-self-2 : goal.invariant_of-self-2
invariant_of-self-2 c =
    indexed_without c.self.inside.by_number.entries c.remove.new.self.entries (pair_at c.self.inside.by_topic) (pair_at c.remove-2.new.index)
    (topic_end_at c.self.inside.by_topic) (topic_end_at c.remove-2.new.index) (has_end c.self.inside.by_end) (has_end c.remove-3.new.self)
    c.args.n c.in_ok-lease.lease c.self.invariant (sym c.in_ok-lease.ensures.value) c.remove.ensures.ordered
    (λ q. c.remove.ensures.updates.0 q ∙ ap (λ b. cond b None (lease_at q c.self.inside.by_number.entries)) (is_at_number c.args.n q))
    (rw (← c.as_slice.ensures, ← c.as_slice-2.ensures) c.remove-2.ensures.pairs)
    (rw (← c.as_slice.ensures) c.remove-2.ensures.topics)
    (λ x q.
    c.remove-3.ensures.updates.0 (x, q)
    ∙ ap (λ b. cond b false (has_end c.self.inside.by_end x q)) (at_pair c.end_of.result c.args.n x q)
    ∙ ap (λ e. cond ((e == x) && (c.args.n == q)) false (has_end c.self.inside.by_end x q)) c.end_of.ensures)
