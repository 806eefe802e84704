use Rattle.std.proofs.Common.{ap, sym, ◌∙◌, subst}
use Rattle.ws_core_tables.specs.Stands.{StandsFor}
use Rattle.ws_model.specs.Legal.{is_confirmable, pending_of}
use Rattle.ws_core_tables.proofs.Lookups.{confirmable_of, none_waits, waiting_is}
use Rattle.ws_core_tables.proofs.tables.Tables.is_confirmable.Goals as goal

pub returns-in_default : goal.returns-in_default
returns-in_default c =
    record {
      stands = λ h since s l. ap (is_confirmable h c.args.sent c.args.t) (none_waits h c.self.inside.intents c.args.n (subst (StandsFor h since) (sym c.self.view_is) s).intents c.in_default.ensures);
    }

pub returns-then-is_first : goal.returns-then-is_first
returns-then-is_first c =
    record {
      stands = λ h since s l.
          let inside = subst (StandsFor h since) (sym c.self.view_is) s in
          confirmable_of h c.args.sent c.args.t (pending_of h c.args.n) c.in-Some.waiting.now.intent c.is_in_time-in_time.result
          (waiting_is h c.self.inside.intents c.args.n c.in-Some.waiting.now inside.intents c.in-Some.ensures)
          (sym c.if-is_first.true ∙ c.is_first.ensures.stands h inside.intents l)
          c.is_in_time-in_time.ensures;
    }
