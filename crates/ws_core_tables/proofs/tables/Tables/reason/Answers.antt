use Rattle.std.proofs.Common.{ap, sym, subst, ◌∙◌}
use Rattle.std.specs.Option.{option_map}
use Rattle.ws_intent.specs.declared.rows.Denial.{Denial}
use Rattle.ws_core_tables.specs.Stands.{StandsFor}
use Rattle.ws_core_tables.proofs.Reasons.{reason_is}
use Rattle.ws_core_tables.proofs.tables.Tables.reason.Goals as goal

pub returns-in-Some : goal.returns-in-Some
returns-in-Some c =
    record {
      stands = λ h since s. ap (option_map (λ (d : Denial). d.reason)) c.in-Some.ensures ∙ reason_is h c.self.inside.intents c.args.n (subst (StandsFor h since) (sym c.self.view_is) s).intents;
    }

pub returns-in-None : goal.returns-in-None
returns-in-None c =
    record {
      stands = λ h since s. ap (option_map (λ (d : Denial). d.reason)) c.in-None.ensures ∙ reason_is h c.self.inside.intents c.args.n (subst (StandsFor h since) (sym c.self.view_is) s).intents;
    }
