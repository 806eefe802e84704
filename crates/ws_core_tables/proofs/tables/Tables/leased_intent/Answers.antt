use Rattle.std.proofs.Common.{◌≡◌, ◌≤◌, ap, sym, subst, ◌∙◌}
use Rattle.std.specs.Prelude.{find, min, ◌==◌}
use Rattle.std.specs.Option.{option_map}
use Rattle.ws_model.specs.declared.lease.Lease.{Lease}
use Rattle.ws_model.specs.Leases.{live}
use Rattle.ws_model.specs.Moment.{time}
use Rattle.ws_core_tables.specs.declared.numbers.Numbers.{Numbers}
use Rattle.ws_core_tables.specs.Stands.{StandsFor}
use Rattle.ws_core_tables.proofs.Reasons.{time_kept}
use Rattle.ws_core_tables.proofs.tables.Tables.leased_intent.Goals as goal

pub returns : goal.returns
returns c =
    record {
      stands = λ h since s l k.
          let inside = subst (StandsFor h since) (sym c.self.view_is) s in
          let now : c.min.result ≡ time h = c.min.ensures ∙ ap (λ (m : Numbers). min m.all.time 281474976710655) inside.numbers ∙ time_kept h l in
          c.live_intent.ensures.stands h since s (subst (λ t. since ≤ t) (sym now) k) ∙ ap (λ t. option_map (λ (x : Lease). x.intent) (find (λ x. x.intent.n == c.args.n) (live h t))) now;
    }
