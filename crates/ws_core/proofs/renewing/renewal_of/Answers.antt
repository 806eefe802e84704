use Rattle.std.specs.Prelude.{find, ◌==◌}
use Rattle.ws_model.specs.declared.lease.Lease.{Lease}
use Rattle.ws_model.specs.Leases.{live}
use Rattle.ws_core.proofs.Replacing.{as_renewal, no_renewal}
use Rattle.ws_core.proofs.renewing.renewal_of.Goals as goal

pub returns-in_ok-copy-in-Some : goal.returns-in_ok-copy-in-Some
returns-in_ok-copy-in-Some c h since s k =
    as_renewal c.args.lease (find (λ (l : Lease). l.intent.n == c.args.old) (live h c.args.t)) c.in-Some.intent.now c.in_ok-copy-in-Some.field-0 c.in_ok-copy-in-Some.ensures (c.in-Some.ensures.stands h since s k)

pub returns-in-None : goal.returns-in-None
returns-in-None c h since s k = no_renewal c.args.lease (find (λ (l : Lease). l.intent.n == c.args.old) (live h c.args.t)) (c.in-None.ensures.stands h since s k)
