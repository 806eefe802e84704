use Rattle.std.proofs.Common.{ap, sym, subst, ◌∙◌}
use Rattle.std.specs.Option.{option_map}
use Rattle.ws_topic.specs.declared.rows.LastPing.{LastPing}
use Rattle.ws_core_tables.specs.Stands.{StandsFor}
use Rattle.ws_core_tables.proofs.Pinged.{pinged_is}
use Rattle.ws_core_tables.proofs.tables.Tables.owed_fetch.Goals as goal

pub returns-in-Some : goal.returns-in-Some
returns-in-Some c =
    record {
      stands = λ h since s. ap (option_map (λ (p : LastPing). p.serial)) c.in-Some.ensures.ping ∙ pinged_is h c.self.inside.topics c.args.topic.now (subst (StandsFor h since) (sym c.self.view_is) s).topics;
    }

pub returns-in-None : goal.returns-in-None
returns-in-None c =
    record {
      stands = λ h since s. ap (option_map (λ (p : LastPing). p.serial)) c.in-None.ensures.ping ∙ pinged_is h c.self.inside.topics c.args.topic.now (subst (StandsFor h since) (sym c.self.view_is) s).topics;
    }
