use Rattle.ws_core_tables.proofs.Onward.{by_tally, from_shown}
use Rattle.ws_core_tables.proofs.tables.Tables.tallied.Goals as goal

pub returns : goal.returns
returns c =
    record {
      stands = from_shown c.args.event.now _ _ _ c.self.view_is (by_tally c.args.event.now _ c.after-self-inside.result c.args._tally.now c.requires.kind c.after-self-inside.ensures);
    }
