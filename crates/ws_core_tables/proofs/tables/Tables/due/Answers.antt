use Rattle.std.proofs.Common.{sym, ap, ◌∙◌, subst, Some, None}
use Rattle.std.specs.Option.{option_map}
use Rattle.ws_model.specs.declared.work.Work.TheVariants.{Fetch, Push}
use Rattle.ws_delivery.proofs.Agreeing.{next_due_agrees}
use Rattle.ws_core_tables.specs.Stands.{StandsFor, work_of}
use Rattle.ws_core_tables.proofs.FirstDue.{by_intent, by_topic, by_push}
use Rattle.ws_core_tables.proofs.tables.Tables.due.Goals as goal

pub returns-in-Some : goal.returns-in-Some
returns-in-Some c =
    record {
      stands = λ h since s l k.
          by_intent h c.args.t c.args.held.now (work_of c.of_intent.result)
          (ap Some c.of_intent.ensures ∙ c.in-Some.ensures.stands h (subst (StandsFor h since) (sym c.self.view_is) s).intents l);
    }

pub returns-in-Some-next_due : goal.returns-in-Some-next_due
returns-in-Some-next_due c =
    record {
      stands = λ h since s l k.
          let inside = subst (StandsFor h since) (sym c.self.view_is) s in
          by_topic h c.args.t c.args.held.now (Fetch c.in-Some-next_due.topic.now c.self.inside.numbers.all.serial)
          (c.in_default.ensures.stands h inside.intents l)
          (ap (λ n. Some (Fetch c.in-Some-next_due.topic.now n.all.serial)) inside.numbers ∙ c.in-Some-next_due.ensures.stands h inside.topics l);
    }

pub returns-in_err-ver : goal.returns-in_err-ver
returns-in_err-ver c =
    record {
      stands = λ h since s l k.
          let inside = subst (StandsFor h since) (sym c.self.view_is) s in
          ap (option_map work_of) c.from_residual.ensures
          ∙ by_push h c.args.t c.args.held.now None
          (c.in_default.ensures.stands h inside.intents l)
          (c.in_default-next_due.ensures.stands h inside.topics l)
          (sym (next_due_agrees h since c.args.t c.args.held.now c.self.inside.deliveries None l inside.deliveries k c.in_err-ver.ensures));
    }

pub returns : goal.returns
returns c =
    record {
      stands = λ h since s l k.
          let inside = subst (StandsFor h since) (sym c.self.view_is) s in
          by_push h c.args.t c.args.held.now (Some (Push c.in_ok-ver.ver c.in_ok-ver.lease))
          (c.in_default.ensures.stands h inside.intents l)
          (c.in_default-next_due.ensures.stands h inside.topics l)
          (sym (next_due_agrees h since c.args.t c.args.held.now c.self.inside.deliveries (Some (c.in_ok-ver.ver, c.in_ok-ver.lease)) l inside.deliveries k c.in_ok-ver.ensures));
    }
