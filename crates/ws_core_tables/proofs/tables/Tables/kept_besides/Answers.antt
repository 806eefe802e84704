use Rattle.std.proofs.Common.{sym, subst, ◌∙◌}
use Rattle.ws_core_tables.specs.Stands.{StandsFor}
use Rattle.ws_core_tables.proofs.HeldBodies.{held_besides}
use Rattle.ws_core_tables.proofs.tables.Tables.kept_besides.Goals as goal

pub returns : goal.returns
returns c =
    record {
      stands = λ h since s l later.
          let inside = subst (StandsFor h since) (sym c.self.view_is) s in
          c.bodies_besides.ensures.bodies
          ∙ held_besides h since c.args.t _ c.args.topic.now c.in_ok-owed.owed inside l later c.bodies_besides.ensures.ordered (c.in_ok-owed.ensures.stands h since l inside.deliveries later);
    }
