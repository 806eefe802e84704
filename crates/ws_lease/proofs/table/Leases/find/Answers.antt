use Rattle.std.proofs.Common.{ap, sym, ◌∙◌, subst}
use Rattle.ws_model.specs.Leases.{live}
use Rattle.ws_lease.specs.Index.{pair_at, topic_end_at}
use Rattle.ws_lease.specs.Indexed.{has_end, still_live}
use Rattle.ws_lease.specs.Table.{live_of_pair}
use Rattle.ws_lease.specs.Stands.{StandsFor}
use Rattle.ws_lease.proofs.Answering.{found_live}
use Rattle.ws_lease.proofs.IndexedRows.{found_by_index}
use Rattle.ws_lease.proofs.Standing.{live_apart}
use Rattle.ws_lease.proofs.table.Leases.find.Goals as goal

pub returns-clause-value : goal.returns-clause-value
returns-clause-value c =
    c.still_live.ensures
    ∙ ap (still_live c.args.t c.self.inside.by_number.entries) c.number_of-n.ensures
    ∙ sym (found_by_index c.self.inside.by_number (pair_at c.self.inside.by_topic) (topic_end_at c.self.inside.by_topic) (has_end c.self.inside.by_end) c.self.invariant c.args.topic.now c.args.callback.now c.args.t)
    ∙ ap (live_of_pair c.args.topic.now c.args.callback.now c.args.t) c.self.view_is

pub returns-clause-stands : goal.returns-clause-stands
returns-clause-stands c =
    λ h since legal s le.
    c.still_live.ensures
    ∙ ap (still_live c.args.t c.self.inside.by_number.entries) c.number_of-n.ensures
    ∙ found_live c.self.inside.by_number.entries (pair_at c.self.inside.by_topic) (topic_end_at c.self.inside.by_topic) (has_end c.self.inside.by_end) c.self.invariant
    c.args.t (live h c.args.t) (live_apart h legal c.args.t) (λ n. (subst (StandsFor h since) (sym c.self.view_is) s).shows c.args.t n le) c.args.topic.now c.args.callback.now
