use Rattle.std.proofs.Common.{ap, ◌∙◌}
use Rattle.std.specs.Prelude.{is_some}
use Rattle.ws_model.specs.Leases.{live}
use Rattle.ws_laws.proofs.Follow.{some_found}
use Rattle.ws_lease.specs.Stands.{is_numbered}
use Rattle.ws_lease.proofs.Answering.{some_copied}
use Rattle.ws_lease.proofs.table.Leases.live.Goals as goal

pub returns-clause-stands : goal.returns-clause-stands
returns-clause-stands c =
    λ h since s le.
    c.is_some.ensures
    ∙ some_copied c.get.result
    ∙ ap is_some (c.get.ensures.stands h since s le)
    ∙ some_found (is_numbered c.args.n) (live h c.args.t)
