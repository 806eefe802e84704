use Rattle.std.proofs.Common.{ap, sym, ◌∙◌, subst, length}
use Rattle.ws_model.specs.Leases.{live}
use Rattle.ws_lease.specs.Table.{live_rows}
use Rattle.ws_lease.specs.Stands.{StandsFor}
use Rattle.ws_lease.proofs.Answering.{ends_count, live_count}
use Rattle.ws_lease.proofs.Standing.{live_apart}
use Rattle.ws_lease.proofs.table.Leases.count.Goals as goal

pub returns-clause-value : goal.returns-clause-value
returns-clause-value c =
    c.count_after.ensures.count
    ∙ ends_count c.self.inside.by_number.entries c.self.invariant.ordered c.args.t c.requires c.self.inside.by_end.keys c.count_after.ensures.ordered c.self.invariant.in_ends
    ∙ ap (λ rows. length (live_rows c.args.t rows)) c.self.view_is

pub returns-clause-stands : goal.returns-clause-stands
returns-clause-stands c =
    λ h since legal s le.
    c.count_after.ensures.count
    ∙ ends_count c.self.inside.by_number.entries c.self.invariant.ordered c.args.t c.requires c.self.inside.by_end.keys c.count_after.ensures.ordered c.self.invariant.in_ends
    ∙ live_count c.self.inside.by_number.entries c.self.invariant.ordered c.args.t (live h c.args.t) (live_apart h legal c.args.t) (λ n. (subst (StandsFor h since) (sym c.self.view_is) s).shows c.args.t n le)
