use Rattle.std.proofs.Common.{Bool, ap, ◌∙◌, rules, tests}
use Rattle.std.specs.Prelude.{filter, is_none}
use Rattle.std.proofs.lemmas.Fn.{filter_same}
use Rattle.ws_model.specs.declared.lease.Lease.{Lease}
use Rattle.ws_model.specs.Leases.{lease_end}
use Rattle.ws_plain.specs.Past.{past}
use Rattle.ws_plain.proofs.leases.live.Goals as goal

pub returns : goal.returns
returns c =
    let test : Lease → Bool = λ l. is_none (lease_end (past c.args.events.now) l c.args.t) in
    filter_same _ test _ (λ x b g k. search (rules, tests) fits 8000) _ _ c.retain.ensures.filtered ∙ ap (filter test) c.in_ok-leases.ensures
