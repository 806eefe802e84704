use Rattle.ws_core_tables.proofs.Onward.{by_intents, from_shown}
use Rattle.ws_core_tables.proofs.tables.Tables.settled.Goals as goal

pub returns : goal.returns
returns c =
    record {
      stands =
          from_shown c.args.event.now _ _ _ c.self.view_is
          (by_intents c.args.event.now _ c.settle.new.self c.after-self-inside.result c.requires.alone c.after-self-inside.ensures
          (λ h s l. c.settle.ensures.stands h c.args.event.now s l c.requires.kind));
    }
