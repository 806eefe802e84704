use Rattle.std.proofs.Common.{ap, sym, ◌∙◌}
use Rattle.std.specs.Prelude.{◌==◌}
use Rattle.ws_kept.specs.Finding.{gives_lease, is_noticed}
use Rattle.ws_kept.proofs.Lists.{and_none, and_one}
use Rattle.ws_kept.proofs.leases.given_by.Goals as goal

pub returns-in-Confirmed : goal.returns-in-Confirmed
returns-in-Confirmed c =
    record {
      stands = λ h since s l k n.
          and_one (c.in-Confirmed.n == n) (is_noticed h c.in-Confirmed.n) (c.if-is_noticed.ensures.stands h since s)
          ∙ ap (gives_lease h c.args.t n) (sym c.in-Confirmed.is);
    }

pub returns-in_default-2 : goal.returns-in_default-2
returns-in_default-2 c =
    record {
      stands = λ h since s l k n.
          and_none (c.in-Confirmed.n == n) (is_noticed h c.in-Confirmed.n) (c.if-is_noticed.ensures.stands h since s)
          ∙ ap (gives_lease h c.args.t n) (sym c.in-Confirmed.is);
    }
