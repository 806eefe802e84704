use Rattle.std.proofs.Common.{◌≤◌, sym, subst}
use Rattle.ws_core_tables.specs.Besides.{kept_besides}
use Rattle.ws_core_tables.specs.Stands.{StandsFor}
use Rattle.ws_core_tables.proofs.HeldBodies.{held_enough}
use Rattle.ws_core_tables.proofs.tables.Tables.bodies.Goals as goal

pub returns : goal.returns
returns c =
    record {
      stands = λ h since t topic s l later.
          subst (λ k. kept_besides h t topic ≤ k) (sym c.bodies.ensures.bodies)
          (held_enough h since t _ topic (subst (StandsFor h since) (sym c.self.view_is) s) l later c.bodies.ensures.ordered);
    }
