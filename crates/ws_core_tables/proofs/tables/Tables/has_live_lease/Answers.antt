use Rattle.std.proofs.Common.{sym, ◌∙◌, subst}
use Rattle.std.specs.Prelude.{bytes_eq}
use Rattle.ws_model.specs.Leases.{live}
use Rattle.ws_core_tables.specs.Stands.{StandsFor}
use Rattle.ws_core_tables.proofs.Holding.{some_lease}
use Rattle.ws_core_tables.proofs.tables.Tables.has_live_lease.Goals as goal

pub returns : goal.returns
returns c =
    record {
      stands = λ h since s legal later.
          c.is_some.ensures
          ∙ some_lease (λ l. bytes_eq l.intent.topic c.args.topic.now) c.live_of_topic.result c.next.new.self c.next.result (live h c.args.t) c.next.ensures.steps
          (c.live_of_topic.ensures.stands h since legal (subst (StandsFor h since) (sym c.self.view_is) s).leases later);
    }
