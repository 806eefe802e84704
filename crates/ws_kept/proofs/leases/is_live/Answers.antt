use Rattle.std.proofs.Common.{◌≡◌, refl, ap, ◌∙◌}
use Rattle.std.specs.Prelude.{Option, Some, None, find, is_some, ◌==◌}
use Rattle.std.specs.Option.{option_map}
use Rattle.ws_model.specs.declared.lease.Lease.{Lease}
use Rattle.ws_model.specs.Leases.{live}
use Rattle.ws_laws.proofs.Follow.{some_found}
use Rattle.ws_core_tables.proofs.Lookups.{is_some-copied}
use Rattle.ws_kept.proofs.leases.is_live.Goals as goal

there : (o : Option Lease) → is_some (option_map (λ (l : Lease). l.intent) o) ≡ is_some o
there None = refl
there (Some l) = refl

pub returns : goal.returns
returns c =
    record {
      stands = λ h since s k.
          c.is_some.ensures
          ∙ is_some-copied c.live_intent.result
          ∙ ap is_some (c.live_intent.ensures.stands h since s k)
          ∙ there (find (λ (l : Lease). l.intent.n == c.args.lease) (live h c.args.t))
          ∙ some_found (λ (l : Lease). l.intent.n == c.args.lease) (live h c.args.t);
    }
