use Rattle.std.proofs.Common.{ap, sym, ◌∙◌, subst, ◌&&◌}
use Rattle.ws_model.specs.Moment.{last_time}
use Rattle.ws_model.specs.Legal.{is_allowed}
use Rattle.ws_core_tables.specs.Stands.{StandsFor}
use Rattle.ws_core_tables.proofs.Lookups.{no_tally, order_in_time, since_in_time}
use Rattle.ws_core_tables.proofs.tables.Tables.allows.Goals as goal

pub returns-then-is_in_order : goal.returns-then-is_in_order
returns-then-is_in_order c =
    record {
      stands = λ h since s l k.
          let inside = subst (StandsFor h since) (sym c.self.view_is) s in
          let order = sym (c.is_in_order.ensures.order h inside.numbers) ∙ c.if-is_in_order.true in
          c.allows_what.ensures.stands h since s l (since_in_time since c.args.event.now.t (last_time h) k (order_in_time c.args.event.now h order))
          ∙ ap (λ b. b && is_allowed c.args.event.now.what c.args.event.now.t h) (sym order)
          ∙ sym (no_tally c.args.event.now h c.args.event.now.what c.in_default.not-Tally);
    }
